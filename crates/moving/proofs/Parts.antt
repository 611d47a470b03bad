-- The state after a move, and the card that it is.
-- Assumes nothing.
use Prim.Native.Nat.{ℕ}
use mathlib.Core.Bool.{true}
use mathlib.Core.List.{List, [], ◌∷◌}
use mathlib.Core.Path.{◌≡◌, ap, ◌∙◌}
use lib.ListN.{set, take}
use Rattle.rules.specs.Numbers.{no_error}
use Rattle.rules.specs.Bytes.{hex, hex_to}
use Rattle.rules.specs.Loader.{judge}
use Rattle.rules.specs.Page.{entry_of}
use Rattle.rules.specs.Card.{Card, held, empty, with_environment, with_history, with_run}
use Rattle.rules.specs.Trail.{left, lowered}
use Rattle.rules.specs.Step.{marked, placed, entered, leaving}
use Rattle.slots.specs.Slots.{slots, tidy_slots}
use Rattle.trail.specs.Trail.{history_of, tidy_trail}
use Rattle.word.specs.Word.{hand_of, tidy_hand}
use Rattle.leaving.specs.Leaving.{entry_for, left_by}
use Rattle.leaving.proofs.Accepted.{left_by_lem}
use Rattle.state.specs.declared.State.{State}
use Rattle.state.specs.State.{Is, page_of}
use Rattle.state.proofs.Changes.{new_environment, new_history, new_place}
use Rattle.std.specs.Prelude.{Ok}

module _ (m : State) (c : Card) (is : Is m c) where
  -- a state goes on in a unit, with no command in hand
  pub entry_is : (k place : ℕ) (hand : List ℕ) → place ≡ entry_of (take m.len m.page) k → hand_of hand ≡ empty → tidy_hand hand ≡ true → Is (record { page = m.page; len = m.len; environment = m.environment; temporary = m.temporary; permanent = m.permanent; trail = m.trail; guard = m.guard; hand = hand; wanted = m.wanted; unit = k; place = place }) (entered c k)
  unfolding entered page_of
  entry_is k place hand e idle t = rw (← (e ∙ ap (λ (s : List ℕ). entry_of s k) is.page)) (new_place m c is hand empty k place idle t)

  module _ (environment : List ℕ) (t : tidy_slots m.environment ≡ true → tidy_slots environment ≡ true) where
    pub noted_as : (bytes : List ℕ) → slots environment ≡ set (slots m.environment) 5 (held 3 bytes) → Is (record { page = m.page; len = m.len; environment = environment; temporary = m.temporary; permanent = m.permanent; trail = m.trail; guard = m.guard; hand = m.hand; wanted = m.wanted; unit = m.unit; place = m.place }) (marked bytes c)
    unfolding marked
    noted_as bytes e = new_environment m c is environment _ (rw is.environment at e) (t is.tidy_environment)

    module _ (e : slots environment ≡ set (slots m.environment) 5 (held 3 (0 ∷ 0 ∷ []))) where
      pub noted : Is (record { page = m.page; len = m.len; environment = environment; temporary = m.temporary; permanent = m.permanent; trail = m.trail; guard = m.guard; hand = m.hand; wanted = m.wanted; unit = m.unit; place = m.place }) (marked no_error c)
      unfolding no_error hex hex_to
      noted = noted_as (0 ∷ 0 ∷ []) e

      pub placed_is : (p : ℕ) (hand : List ℕ) → hand_of hand ≡ empty → tidy_hand hand ≡ true → Is (record { page = m.page; len = m.len; environment = environment; temporary = m.temporary; permanent = m.permanent; trail = m.trail; guard = m.guard; hand = hand; wanted = m.wanted; unit = m.unit; place = p }) (placed (marked no_error c) p)
      unfolding placed marked with_environment with_run
      placed_is p hand idle i = rw (← is.unit) (new_place _ (marked no_error c) noted hand empty m.unit p idle i)

      module _ (trail : List ℕ) (i : tidy_trail m.trail ≡ true → tidy_trail trail ≡ true) where
        pub left_is : judge c.run.page ≡ Ok tt → (judge (take m.len m.page) ≡ Ok tt → history_of trail ≡ left_by (entry_for (take m.len m.page) m.unit) (history_of m.trail))
            → Is (record { page = m.page; len = m.len; environment = environment; temporary = m.temporary; permanent = m.permanent; trail = trail; guard = m.guard; hand = m.hand; wanted = m.wanted; unit = m.unit; place = m.place }) (leaving (marked no_error c))
        unfolding leaving marked with_environment page_of
        left_is ok h =
            let g : history_of trail ≡ left c.run.page c.run.unit c.history = (rw (is.page, is.unit, is.history) at h) ok ∙ left_by_lem c.run.page c.run.unit c.history in
            new_history _ (marked no_error c) noted trail _ g (i is.tidy_history)

        pub lowered_is : history_of trail ≡ lowered (history_of m.trail) → Is (record { page = m.page; len = m.len; environment = environment; temporary = m.temporary; permanent = m.permanent; trail = trail; guard = m.guard; hand = m.hand; wanted = m.wanted; unit = m.unit; place = m.place }) (with_history (marked no_error c) (lowered c.history))
        lowered_is h = new_history _ (marked no_error c) noted trail _ (rw is.history at h) (i is.tidy_history)
