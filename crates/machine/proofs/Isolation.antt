-- Demand 3 for machines: what the calls promise is what the definitions give, so the definitions' isolation is the machines'.
-- Assumes nothing.
use Prim.Native.Nat.{ℕ}
use mathlib.Core.Bool.{true}
use mathlib.Core.List.{List, ◌∷◌}
use mathlib.Core.Path.{◌≡◌, refl, sym, ap, ◌∙◌}
use Rattle.rules.specs.IsCard.{is_card}
use Rattle.rules.specs.Calls.{Asked, Answer, act, answers, after_all}
use Rattle.rules.specs.Hidden.{Alike, Unasked}
use Rattle.rules.proofs.StaysCard.{stays_card}
use Rattle.rules.proofs.Isolation.{isolation}
use Rattle.state.specs.State.{card_of}
use Rattle.state.proofs.Canonical.{is_card_of}
use Rattle.machine.specs.declared.Machine.{Machine}
use Rattle.machine.specs.Calls.{Through, done, next, Apart}

-- the calls on a machine that is a card are the definitions' calls on its card
pub through_rules : {ks : List Asked} {m : Machine} {xs : List Answer} {n : Machine} → is_card (card_of m.state) ≡ true → Through ks m xs n →
    (xs ≡ answers ks (card_of m.state)) × (card_of n.state ≡ after_all ks (card_of m.state))
unfolding answers after_all
through_rules e (done m) = (refl, refl)
through_rules e (next k ks m a after xs last p rest) =
    let c = card_of m.state in
    let f : card_of after.state ≡ (act k c).card = is_card_of after.state (act k c).card (p.goes e) in
    let g = through_rules (rw f (stays_card c e k)) rest in
    (rw p.answered (ap (λ (x : List Answer). (act k c).answer ∷ x) (g.0 ∙ rw f refl)), g.1 ∙ rw f refl)

pub machine_isolation : (service : List ℕ) (ks : List Asked) (m n : Machine) (xs ys : List Answer) (p q : Machine) → Alike service (card_of m.state) (card_of n.state) → Unasked service (card_of m.state) (card_of n.state) ks
    → Through ks m xs p → Through ks n ys q → Apart service ks m n xs ys p q
machine_isolation service ks m n xs ys p q alike unasked x y =
    let i = isolation service (card_of m.state) (card_of n.state) ks alike unasked in
    let f = through_rules alike.card_c x in
    let g = through_rules alike.card_d y in
    record {
      same = f.0 ∙ i.same_answers ∙ sym g.0;
      given = f.0;
      kept_m = rw f.1 i.kept_c;
      kept_n = rw g.1 i.kept_d;
    }
