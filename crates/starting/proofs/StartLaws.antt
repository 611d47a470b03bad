-- An accepted page, in the shape of what its start needs.
-- Assumes nothing.
use Prim.Native.Nat.{ℕ, ◌-◌, ◌≤◌}
use mathlib.Core.Bool.{Bool, true, false, cond}
use mathlib.Core.List.{List, []}
use mathlib.Core.Path.{◌≡◌, refl, sym, ap, ◌∙◌}
use lib.ListN.{length}
use borrow.Author.Tests.{le-leb}
use Rattle.pour.specs.Pour.{blank, padded}
use Rattle.pour.proofs.PadLaws.{length_padded, take_padded, drop_padded, zeros_blank}
use Rattle.rules.specs.Card.{Slot, Guard, unlocked, locked, empty, Card, with_wanted, with_guard, with_temporary}
use Rattle.rules.specs.Page.{entry_of}
use Rattle.rules.specs.Keep.{cleared, opened_by, started}
use Rattle.slots.specs.Slots.{slots, tidy_slots}
use Rattle.keep.specs.Opens.{opens}
use Rattle.word.specs.Word.{word_in, guard_of}
use Rattle.word.proofs.Parts.{guard_blank, blank_guard, hand_blank, blank_hand, blank_wanted}
use Rattle.state.specs.declared.State.{State}
use Rattle.state.specs.State.{Is, tidy_page}
use Rattle.state.proofs.Changes.{new_temporary, new_guard, new_wanted, new_run}

module _ (b : Bool) (xs : List Slot) where
  pub admit_all : b ≡ true → xs ≡ cond b xs (cleared xs)
  admit_all e = sym (rw e refl)

  pub admit_none : (ys : List Slot) → b ≡ false → ys ≡ cleared xs → ys ≡ cond b xs (cleared xs)
  admit_none ys e f = f ∙ sym (rw e refl)

pub ruleset admit_laws = (admit_all, admit_none)

pub put_at : (p s d : List ℕ) → length d ≡ 4096 → p ≡ padded (length d) s → p ≡ padded 4096 s
put_at p s d l e = e ∙ ap (λ (n : ℕ). padded n s) l

opened_is : (s : List ℕ) (g : Guard) (xs : List Slot) → opened_by s g xs ≡ cond (opens s g) xs (cleared xs)
unfolding opened_by opens
opened_is s unlocked xs = refl
opened_is s (locked word) xs = refl

none_wanted : word_in (blank 66) ≡ []
unfolding word_in
none_wanted = refl

page_padded : (s : List ℕ) → length s ≤ 4096 → tidy_page (padded 4096 s) (length s) ≡ true
unfolding tidy_page
page_padded s h = rw (length_padded 4096 s h, drop_padded 4096 s, zeros_blank (4096 - length s), le-leb _ _ h) refl

module _ (m : State) (c : Card) (is : Is m c) where
  pub start_is : (s page temporary guard hand wanted : List ℕ) (place : ℕ) (b : Bool) → length s ≤ 4096 → b ≡ opens s (guard_of m.guard) → slots temporary ≡ cond b (slots m.temporary) (cleared (slots m.temporary))
      → (tidy_slots m.temporary ≡ true → tidy_slots temporary ≡ true) → guard ≡ blank 18 → hand ≡ blank 257 → wanted ≡ blank 66 → page ≡ padded 4096 s → place ≡ entry_of s 0
      → Is (record { page = page; len = length s; environment = m.environment; temporary = temporary; permanent = m.permanent; trail = m.trail; guard = guard; hand = hand; wanted = wanted; unit = 0; place = place }) (started s c)
  unfolding started with_wanted with_guard with_temporary
  start_is s page temporary guard hand wanted place b l e f t g h w p q =
      let opened = new_temporary m c is temporary (opened_by s c.guard c.temporary) (f ∙ rw (e, is.guard, is.temporary) (sym (opened_is s c.guard c.temporary))) (t is.tidy_temporary) in
      let free = new_guard _ _ opened guard unlocked (rw g guard_blank) (rw g blank_guard) in
      let asked = new_wanted _ _ free wanted [] (rw w none_wanted) (rw w blank_wanted) in
      rw q (new_run _ _ asked page (length s) hand (record { page = s; unit = 0; place = entry_of s 0; hand = empty }) (rw p (take_padded 4096 s)) (rw h hand_blank) (rw p (page_padded s l)) (rw h blank_hand))
