-- The ways through the functions that show a value or hide it.
-- Assumes nothing.
use Prim.Native.Nat.{ℕ, suc, ◌≤◌, ◌<◌}
use mathlib.Core.Bool.{Bool, true, false, cond, false≢true, true≢false}
use mathlib.Core.List.{List, [], ◌∷◌}
use mathlib.Core.Path.{◌≡◌, refl, subst, sym}
use native.Mathlib.Numerals.{add-one}
use native.Mathlib.Omega.{arith}
use lib.ListN.{length, get_or, get_or-eq_default}
use borrow.Author.Tests.{lt-leb, le-leb}
use Rattle.rules.specs.declared.Refusal.TheVariants.{Variable}
use Rattle.rules.specs.declared.Shown.{Shown}
use Rattle.rules.specs.Bytes.{part}
use Rattle.rules.specs.Page.{page_type, element}
use Rattle.rules.specs.Card.{Slot, free, held, Record, none, stored}
use Rattle.rules.specs.Store.{is_record, record_from, value_of, look_for, string_of, value_bytes, value_type}
use Rattle.rules.specs.IsCard.{within}
use Rattle.rules.specs.Calls.{shown_by, padded, hidden, display}
use Rattle.rules.proofs.BlankStore.{from_next}
use Rattle.pour.specs.Pour as pour
use Rattle.slots.specs.Slots.{is_held}
use Rattle.records.specs.Records.{IsPlace, records}
use Rattle.records.proofs.RecordLaws.{sixty_four}
use Rattle.word.specs.Word.{is_marked, guard_of}
use Rattle.leaf.proofs.Cases.{both, was}
use Rattle.std.specs.Prelude.{Option, None, Some}
use Rattle.rules.specs.declared.Span.{Span}

module _ (b : List ℕ) (t : ℕ) where
  pub value_long : 255 < length b → length b ≤ 255 → (r : Shown) → r ≡ display (held t b)
  value_long h short r = absurd (omega arith)

  pub value_shown : (v : List ℕ) → v ≡ pour.padded 255 b → ◌≡◌ {A = Shown} (record { number = 0; valuetype = t; length = length b; bytes = v }) (display (held t b))
  unfolding display padded pour.padded
  value_shown v e = rw e

-- an answer that hides what is free, and one that shows what is held
module _ (r : Shown) where
  pub hides_free : r ≡ hidden Variable → (x : Slot) → is_held x ≡ false → r ≡ display x
  unfolding is_held display
  hides_free h free e = h
  hides_free h (held t v) e = absurd (true≢false e)

  pub shows_held : (t : ℕ) (v : List ℕ) → length v < 256 → (length v ≤ 255 → r ≡ display (held t v)) → (x : Slot) → t ≡ value_type x → v ≡ value_bytes x → is_held x ≡ true → r ≡ display x
  unfolding is_held value_type value_bytes
  shows_held t v l s free e f h = absurd (false≢true h)
  shows_held t v l s (held u w) e f h = rw (e, f) at (s (omega arith))

module _ (x : Slot) (b : Bool) (is : b ≡ is_held x) where
  pub slot_hidden : b ≡ false → (r : Shown) → r ≡ hidden Variable → r ≡ display x
  slot_hidden e r h = hides_free r h x (was is e)

  pub slot_shown : b ≡ true → (t : ℕ) → t ≡ value_type x → (v : List ℕ) → v ≡ value_bytes x → length v < 256 → (r : Shown) → (length v ≤ 255 → r ≡ display (held t v)) → r ≡ display x
  slot_shown e t f v g l r s = shows_held r t v l s x f g (was is e)

pub ruleset slot_laws = (slot_hidden, slot_shown)

-- a record that is found holds a value
is_value : (id : List ℕ) (n : ℕ) (r : Record) → is_record id n r ≡ true → is_held (value_of r) ≡ true
unfolding is_record value_of is_held
is_value id n none e = absurd (false≢true e)
is_value id n (stored i m t v) e = refl

found : (id : List ℕ) (n : ℕ) (rs : List Record) → record_from 0 id n rs < length rs → is_held (value_of (get_or rs (record_from 0 id n rs) none)) ≡ true
unfolding record_from
found id n [] h = absurd (omega arith)
found id n (r ∷ rs) h =
    both (is_record id n r)
    (λ t. rw t (is_value id n r t))
    (λ t. let l : suc (record_from 0 id n rs) < suc (length rs) = rw (t, from_next 0 id n rs, add-one (record_from 0 id n rs)) at h in rw (t, from_next 0 id n rs, add-one (record_from 0 id n rs)) (found id n rs (omega arith)))

module _ (id : List ℕ) (n : ℕ) (m : List ℕ) (r : Shown) where
  abbrev asked : Slot
  asked = cond (within 1 16 (length id)) (look_for id n (records m)) free

  pub record_without : length id < 1 → r ≡ hidden Variable → r ≡ display asked
  unfolding within display
  record_without h e = simp (lt-leb _ _ h) e

  module _ (l : 1 ≤ length id) where
    pub record_long : 16 < length id → r ≡ hidden Variable → r ≡ display asked
    unfolding within display
    record_long h e = simp (le-leb _ _ l, lt-leb _ _ h) e

    module _ (s : length id ≤ 16) (o : Option ℕ) (found_at : IsPlace o (record_from 0 id n (records m))) where
      asks : (k : ℕ) → k ≡ record_from 0 id n (records m) → asked ≡ value_of (get_or (records m) k none)
      unfolding within look_for
      asks k is = simp (le-leb _ _ l, le-leb _ _ s, is)

      pub record_absent : o ≡ None → r ≡ hidden Variable → r ≡ display asked
      unfolding value_of display
      record_absent x e =
          let h : record_from 0 id n (records m) ≡ 64 = subst (λ q. IsPlace q (record_from 0 id n (records m))) x found_at in
          let z : get_or (records m) 64 none ≡ none = get_or-eq_default (records m) none (omega (arith, sixty_four m)) in rw (asks 64 (sym h), z) e

      module _ (k : ℕ) (x : o ≡ Some k) where
        place : (k ≡ record_from 0 id n (records m)) × (k < 64)
        place = subst (λ q. IsPlace q (record_from 0 id n (records m))) x found_at

        pub record_below : k < 64
        record_below = place.1

        pub record_shown : (t : ℕ) → t ≡ value_type (value_of (get_or (records m) k none)) → (v : List ℕ) → v ≡ value_bytes (value_of (get_or (records m) k none)) → length v < 256 → (length v ≤ 255 → r ≡ display (held t v)) → r ≡ display asked
        record_shown t f v g w e =
            let h = place.1 in
            let held : is_held (value_of (get_or (records m) k none)) ≡ true = let q = place.0 in rw place.0 (found id n (records m) (omega (arith, sixty_four m))) in
            rw (asks k place.0) (shows_held r t v w e (value_of (get_or (records m) k none)) f g held)

pub ruleset record_laws = (record_without, record_long, record_absent, record_below, record_shown)

module _ (g : List ℕ) (x : Slot) (b : Bool) (is : b ≡ is_marked g) (r : Shown) where
  pub guard_hides : b ≡ true → r ≡ hidden Variable → r ≡ display (shown_by (guard_of g) x)
  unfolding guard_of shown_by display
  guard_hides e h = simp (was is e) h

  pub guard_shows : b ≡ false → r ≡ display x → r ≡ display (shown_by (guard_of g) x)
  unfolding guard_of shown_by
  guard_shows e h = simp (was is e) h

pub ruleset guard_laws = (guard_hides, guard_shows)

module _ (s : List ℕ) (k : ℕ) (p : Option Span) (is : p ≡ element s k) (r : Shown) where
  pub string_hidden : p ≡ None → r ≡ hidden Variable → r ≡ display (string_of s (element s k))
  unfolding string_of display
  string_hidden x h = simp (was is x) h

  pub string_shown : (u : Span) → p ≡ Some u → (t : ℕ) → t ≡ page_type s → (v : List ℕ) → v ≡ part s u.from u.end → (length v ≤ 255 → r ≡ display (held t v)) → length (value_bytes (string_of s (element s k))) ≤ 255 → r ≡ display (string_of s (element s k))
  unfolding string_of value_bytes
  string_shown u x t e v f h l =
      let w : length (part s u.from u.end) ≤ 255 = rw (was is x) at l in
      rw (was is x) (rw (e, f) at (h (rw f w)))

pub ruleset string_laws = (string_hidden, string_shown)
