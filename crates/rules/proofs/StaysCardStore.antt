-- The areas stay within what number 35 asks: slots that are written, cleared or kept, and records that are written.
-- Assumes nothing.
use mathlib.Core.Path.{◌≡◌, refl, sym, ap, ◌∙◌}
use mathlib.Core.Bool.{Bool, true, false, cond, false≢true}
use mathlib.Core.List.{List, [], ◌∷◌}
use Prim.Native.Nat.{ℕ, zero, suc, ◌+◌, ◌-◌, ◌%◌, ◌≤◌, ◌<◌}
use native.Mathlib.Numerals.{add-one}
use native.Mathlib.Omega.{arith}
use lib.ListN.{length, get_or, set, replicate, length-replicate, length-set}
use lib.Dec.{ltb, eqb}
use borrow.Author.Tests.{eqb-true, eq-eqb, ltb-true, ltb-false, le-leb}
use Rattle.rules.specs.Bytes.{same, part, among}
use Rattle.rules.specs.Pieces.{Pieces, full, cut, text, variable, named}
use Rattle.rules.specs.Shape.{attribute}
use Rattle.rules.specs.Page.{service, element, type_of, page_type, keeps_all}
use Rattle.rules.specs.Card.{Slot, free, held, Record, none, stored, Card, slots, with_environment}
use Rattle.rules.specs.Store.{Area, environmental, permanently, temporarily, string, area, is_record, record_from, free_from, place_for, value_of, look_for, string_of, read_in, read, room, value_bytes, value_type, longest, room_limit}
use Rattle.rules.specs.Value.{shared_with, shared, inline_type, type_for}
use Rattle.rules.specs.Keep.{cleared, listed, kept_by}
use Rattle.rules.specs.IsCard.{within, value_fine, slot_fine, slots_fine, record_fine, repeats, records_fine, run_fine, is_card}
use Rattle.rules.proofs.Choices.{both, either, not_so}
use Rattle.rules.proofs.Writes.{same_eq, same_refl}
use Rattle.rules.proofs.Offsets.{tests}
use Rattle.rules.proofs.BlankTests.{first, second, pass, barred, unbarred, neither}
use Rattle.rules.proofs.BlankStore.{from_next}
use Rattle.rules.proofs.StaysCardParts.{AreasOf, parts_of, of_parts}
use Rattle.std.specs.Prelude.{Option, Some, None}
use Rattle.rules.specs.declared.Span.{Span}

-- the numbers of each area
abbrev pub Numbered : Area → ℕ → Type 0
Numbered environmental n = n < 0x40
Numbered permanently n = (0x40 ≤ n) × (n < 0x80)
Numbered temporarily n = (0x80 ≤ n) × (n < 0xC0)
Numbered string n = 0xC0 ≤ n

pub numbered : (n : ℕ) → Numbered (area n) n
unfolding area
numbered n =
    both (ltb n 0x40) (λ t. simp t (omega tests))
    (λ t. both (ltb n 0x80) (λ u. simp (t, u) (omega tests))
    (λ u. both (ltb n 0xC0) (λ v. simp (t, u, v) (omega tests)) (λ v. simp (t, u, v) (omega tests))))

pub slots_set : (xs : List Slot) (k : ℕ) (x : Slot) → slots_fine xs ≡ true → slot_fine x ≡ true → slots_fine (set xs k x) ≡ true
unfolding slots_fine
slots_set [] k x h e = refl
slots_set (y ∷ ys) zero x h e = pass e (second (slot_fine y) _ h)
slots_set (y ∷ ys) (suc k) x h e = pass (first (slot_fine y) _ h) (slots_set ys k x (second (slot_fine y) _ h) e)

pub slots_free : (n : ℕ) → slots_fine (replicate n free) ≡ true
unfolding slots_fine slot_fine
slots_free zero = refl
slots_free (suc n) = slots_free n

pub room_free : (n : ℕ) → room (replicate n free) ≡ 0
unfolding room value_bytes
room_free zero = refl
room_free (suc n) = rw (room_free n)

pub cleared_free : (xs : List Slot) → cleared xs ≡ replicate (length xs) free
unfolding cleared
cleared_free [] = refl
cleared_free (x ∷ xs) = ap (λ (l : List Slot). free ∷ l) (cleared_free xs)

-- what is kept is no more than there was
pub listed_length : (numbers : List ℕ) (n : ℕ) (xs : List Slot) → length (listed numbers n xs) ≡ length xs
unfolding listed
listed_length numbers n [] = refl
listed_length numbers n (x ∷ xs) = ap suc (listed_length numbers (n + 1) xs)

pub listed_fine : (numbers : List ℕ) (n : ℕ) (xs : List Slot) → slots_fine xs ≡ true → slots_fine (listed numbers n xs) ≡ true
unfolding listed slots_fine slot_fine
listed_fine numbers n [] h = refl
listed_fine numbers n (x ∷ xs) h =
    pass (either (λ y. slot_fine y ≡ true) (among numbers n) (λ _. first (slot_fine x) _ h) (λ _. refl)) (listed_fine numbers (n + 1) xs (second (slot_fine x) _ h))

pub listed_room : (numbers : List ℕ) (n : ℕ) (xs : List Slot) → room (listed numbers n xs) ≤ room xs
unfolding listed room value_bytes
listed_room numbers n [] = omega arith
listed_room numbers n (x ∷ xs) =
    let k = listed_room numbers (n + 1) xs in
    both (among numbers n) (λ t. rw t (omega arith)) (λ t. rw t (omega arith))

-- slots that may be on a card
pub record SlotsFit (xs : List Slot) : Type 0 where
  pub many : length xs ≡ slots
  pub fine : slots_fine xs ≡ true
  pub small : room xs ≤ room_limit

pub cleared_fit : (xs : List Slot) → SlotsFit xs → SlotsFit (cleared xs)
cleared_fit xs h =
    rw (cleared_free xs)
    (record { many = length-replicate (length xs) free ∙ h.many; fine = slots_free (length xs); small = rw (room_free (length xs)) (omega arith) })

pub kept_fit : (s : List ℕ) (p : Option Span) (xs : List Slot) → SlotsFit xs → SlotsFit (kept_by s p xs)
unfolding kept_by
kept_fit s (Some p) xs h =
    let k = listed_room (part s p.from p.end) 0x80 xs in
    let l = h.small in
    record { many = listed_length (part s p.from p.end) 0x80 xs ∙ h.many; fine = listed_fine (part s p.from p.end) 0x80 xs h.fine; small = omega arith }
kept_fit s None xs h = either SlotsFit (keeps_all s) (λ _. h) (λ _. cleared_fit xs h)

-- the type of a slot that is read
pub slot_at : (xs : List Slot) (k : ℕ) → slots_fine xs ≡ true → slot_fine (get_or xs k free) ≡ true
unfolding slots_fine slot_fine
slot_at [] k h = refl
slot_at (x ∷ xs) zero h = first (slot_fine x) _ h
slot_at (x ∷ xs) (suc k) h = slot_at xs k (second (slot_fine x) _ h)

pub slot_type : (x : Slot) → slot_fine x ≡ true → value_type x < 5
unfolding slot_fine value_type value_fine
slot_type free h = omega arith
slot_type (held type bytes) h = ltb-true type 5 (first (ltb type 5) _ h)

record_value : (r : Record) → record_fine r ≡ true → slot_fine (value_of r) ≡ true
unfolding record_fine value_of slot_fine
record_value none h = refl
record_value (stored id n type bytes) h = second (within 1 16 (length id)) _ (second (within 0x40 0x7F n) _ h)

record_at : (rs : List Record) (k : ℕ) → records_fine rs ≡ true → slot_fine (value_of (get_or rs k none)) ≡ true
unfolding records_fine record_fine
record_at [] k h = record_value none refl
record_at (r ∷ rs) zero h = record_value r (first (record_fine r) _ h)
record_at (r ∷ rs) (suc k) h = record_at rs k (unbarred (repeats r rs) _ (second (record_fine r) _ h))

type_of_lem : (x : ℕ) → type_of x < 5
unfolding type_of
type_of_lem x = both (ltb x 5) (λ t. rw t (ltb-true x 5 t)) (λ t. rw t (omega arith))

string_type : (s : List ℕ) (p : Option Span) → value_type (string_of s p) < 5
unfolding string_of value_type page_type
string_type s (Some p) = type_of_lem _
string_type s None = omega arith

module _ (c : Card) (areas : AreasOf c) where
  read_in_type : (a : Area) (n : ℕ) → value_type (read_in a c n) < 5
  unfolding read_in look_for
  read_in_type environmental n = slot_type _ (slot_at c.environment n areas.environment_fine)
  read_in_type permanently n = slot_type _ (record_at c.permanent (record_from 0 (service c.run.page) n c.permanent) areas.permanent_fine)
  read_in_type temporarily n = slot_type _ (slot_at c.temporary (n - 0x80) areas.temporary_fine)
  read_in_type string n = string_type c.run.page (element c.run.page (n - 0xC0))

  read_type : (n : ℕ) → value_type (read c n) < 5
  unfolding read
  read_type n = read_in_type (area n) n

  shared_with_type : (type : ℕ) (p : Pieces) → type < 5 → shared_with type c p < 5
  unfolding shared_with
  shared_with_type type full h = h
  shared_with_type type cut h = h
  shared_with_type type (text from to rest) h = shared_with_type type rest h
  shared_with_type type (variable n rest) h =
      either (λ x. x < 5) (eqb (value_type (read c n)) type) (λ _. shared_with_type type rest h) (λ _. omega arith)

  shared_type : (p : Pieces) → shared c p < 5
  unfolding shared
  shared_type full = omega arith
  shared_type cut = omega arith
  shared_type (text from to rest) = shared_type rest
  shared_type (variable n rest) = shared_with_type (value_type (read c n)) rest (read_type n)

  pub type_for_type : (tag start stop : ℕ) → type_for c tag start stop < 5
  unfolding type_for inline_type page_type
  type_for_type tag start stop =
      either (λ x. x < 5) (eqb tag 0x0D) (λ _. shared_type (named (part c.run.page start stop)))
      (λ _. either (λ x. x < 5) (eqb (type_of (attribute c.run.page tag start stop % 8)) 0) (λ _. type_of_lem _) (λ _. type_of_lem _))

-- a record that is written stands only once
key_only : (id : List ℕ) (n type type' : ℕ) (bytes bytes' : List ℕ) (rs : List Record) → repeats (stored id n type bytes) rs ≡ repeats (stored id n type' bytes') rs
unfolding repeats
key_only id n type type' bytes bytes' [] = refl
key_only id n type type' bytes bytes' (r ∷ rs) = rw (key_only id n type type' bytes bytes' rs)

free_then : (a b : Bool) → a ≡ false → b ≡ false → cond a true b ≡ false
free_then a b p q = rw p q

repeats_set : (id : List ℕ) (n type : ℕ) (bytes : List ℕ) (x : Record) (rs : List Record) (k : ℕ) → repeats (stored id n type bytes) rs ≡ false → is_record id n x ≡ false →
    repeats (stored id n type bytes) (set rs k x) ≡ false
unfolding repeats
repeats_set id n type bytes x [] k h e = refl
repeats_set id n type bytes x (y ∷ ys) zero h e = free_then (is_record id n x) _ e (neither (is_record id n y) _ h).1
repeats_set id n type bytes x (y ∷ ys) (suc k) h e =
    free_then (is_record id n y) _ (neither (is_record id n y) _ h).0 (repeats_set id n type bytes x ys k (neither (is_record id n y) _ h).1 e)

module _ (id : List ℕ) (n type : ℕ) (bytes : List ℕ) where
  abbrev new : Record
  new = stored id n type bytes

  -- a record with another key than the new one
  other_key : (i : List ℕ) (m t : ℕ) (b : List ℕ) → is_record id n (stored i m t b) ≡ false → is_record i m new ≡ false
  unfolding is_record
  other_key i m t b h =
      not_so (cond (eqb n m) (same id i) false)
      (λ e.
      let p = eqb-true n m (first (eqb n m) (same id i) e) in
      let q = same_eq id i (second (eqb n m) (same id i) e) in
      let k : cond (eqb n n) (same id id) false ≡ false = rw (sym p, sym q) at h in
      false≢true (sym k ∙ pass (eq-eqb n n refl) (same_refl id)))

  spared : (r : Record) (rs : List Record) (k : ℕ) → is_record id n r ≡ false → repeats r rs ≡ false → repeats r (set rs k new) ≡ false
  unfolding repeats
  spared none rs k h e = refl
  spared (stored i m t b) rs k h e = repeats_set i m t b new rs k e (other_key i m t b h)

  -- at the head of a list: the record, that it stands not again, the rest
  kept_head : (r : Record) (rs : List Record) → record_fine r ≡ true → repeats r rs ≡ false → records_fine rs ≡ true → records_fine (r ∷ rs) ≡ true
  unfolding records_fine
  kept_head r rs a b c = pass a (rw b c)

  head_of : (r : Record) (rs : List Record) → records_fine (r ∷ rs) ≡ true → (record_fine r ≡ true) × (repeats r rs ≡ false) × (records_fine rs ≡ true)
  unfolding records_fine
  head_of r rs h =
      let k = second (record_fine r) _ h in
      (first (record_fine r) _ h, barred (repeats r rs) _ k, unbarred (repeats r rs) _ k)

  same_key : (r : Record) (rs : List Record) → is_record id n r ≡ true → repeats r rs ≡ false → repeats new rs ≡ false
  unfolding is_record
  same_key none rs h e = absurd (false≢true h)
  same_key (stored i m t b) rs h e =
      let p = eqb-true m n (first (eqb m n) (same i id) h) in
      let q = same_eq i id (second (eqb m n) (same i id) h) in
      let k : repeats (stored id n t b) rs ≡ false = rw (p, q) at e in
      key_only id n type t bytes b rs ∙ k

  module _ (fine : record_fine new ≡ true) where
    own_place : (rs : List Record) → records_fine rs ≡ true → records_fine (set rs (record_from 0 id n rs) new) ≡ true
    unfolding record_from
    own_place [] h = h
    own_place (r ∷ rs) h =
        let k = head_of r rs h in
        both (is_record id n r)
        (λ t. rw t (kept_head new rs fine (same_key r rs t k.1) k.2))
        (λ t. rw (t, from_next 0 id n rs, add-one) (kept_head r (set rs (record_from 0 id n rs) new) k.0 (spared r rs (record_from 0 id n rs) t k.1) (own_place rs k.2)))

    any_place : (rs : List Record) (k : ℕ) → repeats new rs ≡ false → records_fine rs ≡ true → records_fine (set rs k new) ≡ true
    unfolding repeats
    any_place [] k e h = h
    any_place (r ∷ rs) zero e h =
        let i = neither (is_record id n r) _ e in
        kept_head new rs fine i.1 (head_of r rs h).2
    any_place (r ∷ rs) (suc k) e h =
        let i = neither (is_record id n r) _ e in
        let j = head_of r rs h in
        kept_head r (set rs k new) j.0 (spared r rs k i.0 j.1) (any_place rs k i.1 j.2)

  stands : (rs : List Record) → repeats new rs ≡ true → record_from 0 id n rs < length rs
  unfolding repeats record_from
  stands [] h = absurd (false≢true h)
  stands (r ∷ rs) h =
      both (is_record id n r)
      (λ t. rw t (omega arith))
      (λ t. rw (t, from_next 0 id n rs) (let k = stands rs (rw t at h) in omega arith))

  pub records_write : (rs : List Record) → record_fine new ≡ true → records_fine rs ≡ true → records_fine (set rs (place_for id n rs) new) ≡ true
  unfolding place_for
  records_write rs f h =
      both (ltb (record_from 0 id n rs) (length rs))
      (λ t. rw t (own_place f rs h))
      (λ t. rw t (any_place f rs (free_from 0 rs)
      (not_so (repeats new rs) (λ e. let k = stands rs e in let l = ltb-false (record_from 0 id n rs) (length rs) t in omega arith)) h))

-- a card at rest whose environment the host writes
pub environment_card : (c : Card) (n : ℕ) (v : List ℕ) → is_card c ≡ true → c.run.page ≡ [] → length v ≤ longest → is_card (with_environment c (set c.environment n (held 3 v))) ≡ true
unfolding with_environment run_fine slot_fine value_fine
environment_card c n v k e l =
    let p = parts_of c k in
    let a = p.areas in
    of_parts (with_environment c (set c.environment n (held 3 v)))
    (record {
      areas = record {
        environments = length-set c.environment n (held 3 v) ∙ a.environments;
        temporaries = a.temporaries;
        permanents = a.permanents;
        environment_fine = slots_set c.environment n (held 3 v) a.environment_fine (le-leb (length v) longest l);
        temporary_fine = a.temporary_fine;
        temporary_room = a.temporary_room;
        permanent_fine = a.permanent_fine;
        permanent_room = a.permanent_room;
      };
      history = p.history;
      guard = p.guard;
      run = rw e (rw e at p.run);
    })
