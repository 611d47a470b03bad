-- A contract settles the answer and the machine: two outcomes that meet it are the same.
-- Assumes nothing.
use mathlib.Core.Path.{◌≡◌, sym, ap, ◌∙◌}
use Rattle.rules.specs.IsCard.{is_card}
use Rattle.rules.specs.Calls.{Asked, Answer, act}
use Rattle.state.specs.declared.State.{State}
use Rattle.state.specs.State.{card_of}
use Rattle.state.proofs.Canonical.{is_tidy, is_card_lem, canonical_same}
use Rattle.leaf.proofs.Cases.{both}
use Rattle.machine.specs.declared.Machine.{Machine}
use Rattle.machine.specs.Meets.{Meets}

wrapped : (s t : State) → s ≡ t → ◌≡◌ {A = Machine} (record { state = s }) (record { state = t })
wrapped s t e = ap (λ (x : State). record { state = x }) e

pub meets_same : (k : Asked) (m : Machine) (a b : Answer) (x y : Machine) → Meets k m a x → Meets k m b y → (a ≡ b) × (x ≡ y)
meets_same k m a b x y p q = (
  p.answered ∙ sym q.answered,
  both (is_card (card_of m.state))
      (λ t.
      let c = (act k (card_of m.state)).card in
      wrapped x.state y.state
      (canonical_same x.state y.state (is_tidy x.state c (p.goes t)) (is_tidy y.state c (q.goes t)) (is_card_lem x.state c (p.goes t) ∙ sym (is_card_lem y.state c (q.goes t)))))
      (λ t. p.stays t ∙ sym (q.stays t)),
)
