-- A page's end, in the shape of what its proof needs.
-- Assumes nothing.
use Prim.Native.Nat.{ℕ, ◌≤◌}
use mathlib.Core.Bool.{true}
use mathlib.Core.List.{List}
use mathlib.Core.Path.{◌≡◌, refl, ◌∙◌}
use lib.ListN.{length, take}
use Rattle.pour.specs.Pour.{blank}
use Rattle.rules.specs.Card.{Card, with_guard, with_temporary, at_rest}
use Rattle.rules.specs.Page.{keep_list, password, bytes_of}
use Rattle.rules.specs.Keep.{kept_by, guard_by, rested}
use Rattle.slots.specs.Slots.{slots, tidy_slots}
use Rattle.word.specs.Word.{guard_of, tidy_guard}
use Rattle.word.proofs.Parts.{hand_blank, blank_hand}
use Rattle.state.specs.declared.State.{State}
use Rattle.state.specs.State.{page_of, Is}
use Rattle.state.proofs.Parts.{blank_page}
use Rattle.state.proofs.Changes.{new_temporary, new_guard, new_run}

module _ (m : State) (c : Card) (is : Is m c) (short : length (bytes_of c.run.page (password c.run.page)) ≤ 16) where
  pub rest_is : (page temporary guard hand s : List ℕ) → s ≡ take m.len m.page → slots temporary ≡ kept_by s (keep_list s) (slots m.temporary) → (tidy_slots m.temporary ≡ true → tidy_slots temporary ≡ true)
      → (length (bytes_of s (password s)) ≤ 16 → guard_of guard ≡ guard_by s (password s)) → (tidy_guard m.guard ≡ true → tidy_guard guard ≡ true) → hand ≡ blank 257 → page ≡ blank 4096
      → Is (record { page = page; len = 0; environment = m.environment; temporary = temporary; permanent = m.permanent; trail = m.trail; guard = guard; hand = hand; wanted = m.wanted; unit = 0; place = 0 }) (rested c)
  unfolding rested with_guard with_temporary at_rest page_of
  rest_is page temporary guard hand s e kept tidies guarded tidied held none =
      let p : s ≡ c.run.page = e ∙ is.page in
      let kept_is = new_temporary m c is temporary _ (rw (p, is.temporary) at kept) (tidies is.tidy_temporary) in
      let guard-is = new_guard _ _ kept_is guard _ ((rw p at guarded) short) (tidied is.tidy_guarded) in
      new_run _ _ guard-is page 0 hand at_rest refl (rw held hand_blank) (rw none blank_page) (rw held blank_hand)

pub ruleset rest_laws = (rest_is)
