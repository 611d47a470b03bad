-- What the parts of a sound state tell of its card.
-- Assumes nothing.
use Prim.Native.Nat.{ℕ, ◌≤◌}
use mathlib.Core.Bool.{Bool, true, false, cond, false≢true}
use mathlib.Core.List.{List, [], ◌∷◌}
use mathlib.Core.Path.{◌≡◌, refl, sym, ◌∙◌}
use native.Mathlib.Omega.{arith}
use lib.ListN.{length, take, length-take}
use lib.Dec.{eqb, leb}
use borrow.Author.Tests.{eq-eqb, ne_eqb, eqb-true, eqb-false, leb-true}
use Rattle.pour.proofs.StrideLaws.{all_first, all_rest}
use Rattle.rules.specs.Page.{service}
use Rattle.rules.specs.Card.{Card, runs, is_empty}
use Rattle.rules.specs.IsCard.{is_card}
use Rattle.rules.specs.Calls.{ready, waiting}
use Rattle.rules.proofs.StaysCardStep.{Running, card_running}
use Rattle.leaving.proofs.Accepted.{accepted_service}
use Rattle.word.specs.Word.{is_marked, hand_of}
use Rattle.leaf.proofs.Cases.{both}
use Rattle.state.specs.declared.State.{State}
use Rattle.state.specs.State.{Is, card_of, tidy, page_of, tidy_page}
use Rattle.state.proofs.Canonical.{tidy_is, no_card_lem}

-- a state that is a card is in canonical form
pub sound_is : (m : State) → is_card (card_of m) ≡ true → Is m (card_of m)
unfolding card_of
sound_is m e = both (tidy m) (λ t. rw t (tidy_is m t)) (λ t. absurd (false≢true (sym no_card_lem ∙ (rw t at e))))

runs_none : (c : Card) (s : List ℕ) → c.run.page ≡ s → length s ≡ 0 → runs c ≡ false
unfolding runs
runs_none c [] e l = rw e refl
runs_none c (x ∷ xs) e l = absurd (omega arith)

runs_some : (c : Card) (s : List ℕ) → c.run.page ≡ s → (length s ≡ 0 → ⊥) → runs c ≡ true
unfolding runs
runs_some c [] e l = absurd (l refl)
runs_some c (x ∷ xs) e l = rw e refl

hand_empty : (p : List ℕ) → is_empty (hand_of p) ≡ cond (is_marked p) false true
unfolding hand_of is_empty
hand_empty p = both (is_marked p) (λ t. rw t refl) (λ t. rw t refl)

module _ (m : State) (c : Card) (is : Is m c) where
  page_length : length c.run.page ≡ m.len
  unfolding page_of tidy_page
  page_length =
      let l : length m.page ≡ 4096 = eqb-true _ _ (all_first (eqb (length m.page) 4096) _ is.tidy_run) in
      let h : m.len ≤ 4096 = leb-true _ _ (all_first (leb m.len 4096) _ (all_rest (eqb (length m.page) 4096) _ is.tidy_run)) in
      let k = length-take m.len m.page in
      rw (← is.page) (omega arith)

  pub rests : m.len ≡ 0 → runs c ≡ false
  rests e = runs_none c c.run.page refl (page_length ∙ e)

  pub runs_on : (m.len ≡ 0 → ⊥) → runs c ≡ true
  runs_on e = runs_some c c.run.page refl (λ z. e (sym page_length ∙ z))

  pub ready_is : ready c ≡ cond (eqb m.len 0) false (cond (is_marked m.hand) false true)
  unfolding ready
  ready_is =
      both (eqb m.len 0)
      (λ t. rw (t, rests (eqb-true _ _ t)) refl)
      (λ t. rw (t, runs_on (eqb-false _ _ t), ← is.hand) (hand_empty m.hand))

  pub waiting_is : waiting c ≡ cond (eqb m.len 0) false (is_marked m.hand)
  unfolding waiting
  waiting_is =
      both (eqb m.len 0)
      (λ t. rw (t, rests (eqb-true _ _ t)) refl)
      (λ t. rw (t, runs_on (eqb-false _ _ t), ← is.hand, hand_empty m.hand) (both (is_marked m.hand) (λ u. rw u refl) (λ u. rw u refl)))

  pub runs_fine : is_card c ≡ true → (m.len ≡ 0 → ⊥) → Running c
  runs_fine k n = (card_running c k (λ z. n (sym page_length ∙ z))).0

-- where a page runs, its Service ID fits a record
module _ (m : State) (b : Bool) (e : b ≡ is_card (card_of m)) (t : b ≡ true) where
  sound : is_card (card_of m) ≡ true
  sound = sym e ∙ t

  served : (m.len ≡ 0 → ⊥) → length (service (take m.len m.page)) ≤ 16
  unfolding page_of
  served n = let is = sound_is m sound in rw is.page (accepted_service (card_of m).run.page (runs_fine m (card_of m) is sound n).accepted)

  not_none : (n : ℕ) (x : Bool) → cond (eqb n 0) false x ≡ true → n ≡ 0 → ⊥
  not_none n x h z = false≢true (rw (eq-eqb _ _ z) at h)

  module _ (r : Bool) (y : r ≡ true) where
    pub ready_runs : r ≡ cond (eqb m.len 0) false (cond (is_marked m.hand) false true) → (m.len ≡ 0 → ⊥)
    ready_runs x = not_none m.len _ (sym x ∙ y)

    pub waiting_runs : r ≡ cond (eqb m.len 0) false (is_marked m.hand) → (m.len ≡ 0 → ⊥)
    waiting_runs x = not_none m.len _ (sym x ∙ y)

    pub ready_served : r ≡ cond (eqb m.len 0) false (cond (is_marked m.hand) false true) → length (service (take m.len m.page)) ≤ 16
    ready_served x = served (ready_runs x)

    pub waiting_served : r ≡ cond (eqb m.len 0) false (is_marked m.hand) → length (service (take m.len m.page)) ≤ 16
    waiting_served x = served (waiting_runs x)

    pub ready_empty : r ≡ cond (eqb m.len 0) false (cond (is_marked m.hand) false true) → is_empty (card_of m).run.hand ≡ true
    ready_empty x =
        let is = sound_is m sound in
        let z : cond (is_marked m.hand) false true ≡ true = rw (ne_eqb _ _ (ready_runs x)) at (sym x ∙ y) in
        rw (← is.hand) (hand_empty m.hand ∙ z)

    pub waiting_held : r ≡ cond (eqb m.len 0) false (is_marked m.hand) → is_empty (card_of m).run.hand ≡ false
    waiting_held x =
        let is = sound_is m sound in
        let z : is_marked m.hand ≡ true = rw (ne_eqb _ _ (waiting_runs x)) at (sym x ∙ y) in
        rw (← is.hand) (hand_empty m.hand ∙ rw z refl)

pub ruleset served_laws = (ready_served, waiting_served)

module _ (n : ℕ) (b : Bool) where
  pub ready_rests : n ≡ 0 → false ≡ cond (eqb n 0) false b
  ready_rests e = sym (rw (eq-eqb _ _ e) refl)

  pub ready_behind : (n ≡ 0 → ⊥) → (a : Bool) → a ≡ b → a ≡ cond (eqb n 0) false b
  ready_behind e a f = f ∙ sym (rw (ne_eqb _ _ e) refl)

  pub ready_marked : (n ≡ 0 → ⊥) → (a : Bool) → a ≡ b → a ≡ true → false ≡ cond (eqb n 0) false (cond b false true)
  ready_marked e a f t = sym (rw (ne_eqb _ _ e, ← f, t) refl)

  pub ready_free : (n ≡ 0 → ⊥) → (a : Bool) → a ≡ b → a ≡ false → true ≡ cond (eqb n 0) false (cond b false true)
  ready_free e a f t = sym (rw (ne_eqb _ _ e, ← f, t) refl)
