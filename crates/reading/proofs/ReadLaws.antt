-- The ways through `read`, by the area of the number.
-- Assumes nothing.
use Prim.Native.Nat.{ℕ, ◌-◌, ◌≤◌, ◌<◌}
use mathlib.Core.Bool.{cond}
use mathlib.Core.List.{List}
use mathlib.Core.Path.{◌≡◌, ◌∙◌}
use lib.ListN.{length, get_or, take}
use borrow.Author.Tests.{lt-ltb, le-ltb}
use Rattle.rules.specs.declared.Shown.{Shown}
use Rattle.rules.specs.Page.{element}
use Rattle.rules.specs.Card.{Card, free}
use Rattle.rules.specs.Store.{area, look_for, string_of, value_bytes}
use Rattle.rules.specs.IsCard.{within}
use Rattle.rules.specs.Calls.{shown_by, seen, display}
use Rattle.slots.specs.Slots.{slots}
use Rattle.records.specs.Records.{records}
use Rattle.word.specs.Word.{guard_of}
use Rattle.state.specs.declared.State.{State}
use Rattle.state.specs.State.{Is, page_of}
use Rattle.reading.specs.Strings.{ShortStrings}

module _ (m : State) (c : Card) (is : Is m c) (n : ℕ) (id : List ℕ) (r : Shown) where
  pub read_environment : n < 64 → (k : ℕ) → k ≡ n → r ≡ display (get_or (slots m.environment) k free) → r ≡ display (seen (area n) c n id)
  unfolding seen area
  read_environment h k e f = simp (lt-ltb _ _ h) (rw (e, is.environment) at f)

  module _ (h : 64 ≤ n) where
    pub read_permanent : n < 128 → r ≡ display (cond (within 1 16 (length id)) (look_for id n (records m.permanent)) free) → r ≡ display (seen (area n) c n id)
    unfolding seen area
    read_permanent i f = simp (le-ltb _ _ h, lt-ltb _ _ i) (rw is.permanent at f)

    module _ (i : 128 ≤ n) where
      pub read_temporary : n < 192 → (k : ℕ) → k ≡ n → r ≡ display (shown_by (guard_of m.guard) (get_or (slots m.temporary) (k - 128) free)) → r ≡ display (seen (area n) c n id)
      unfolding seen area
      read_temporary j k e f = simp (le-ltb _ _ h, le-ltb _ _ i, lt-ltb _ _ j) (rw (e, is.temporary, is.guard) at f)

      pub read_string : 192 ≤ n → ShortStrings c → (k : ℕ) → k ≡ n → (p : List ℕ) → p ≡ take m.len m.page →
          (length (value_bytes (string_of p (element p (k - 192)))) ≤ 255 → r ≡ display (string_of p (element p (k - 192)))) → r ≡ display (seen (area n) c n id)
      unfolding seen area page_of
      read_string j short k e p q f =
          let page : p ≡ c.run.page = q ∙ is.page in
          simp (le-ltb _ _ h, le-ltb _ _ i, le-ltb _ _ j) ((rw (e, page) at f) (short (n - 192)))
