-- What is written is read under its number and ID, every other pair reads as before, and 18 comes exactly at a limit. Assumes nothing.
use Prim.Native.Nat.{ℕ, zero, suc, ◌+◌, ◌-◌, ◌≤◌, ◌<◌}
use mathlib.Core.Path.{◌≡◌, refl, sym, ap, ap₂, subst, ◌∙◌}
use mathlib.Core.Bool.{Bool, true, false, cond, false≢true}
use mathlib.Core.List.{List, [], ◌∷◌}
use native.Mathlib.Omega.{arith}
use borrow.Author.Tests.{eq-eqb, eqb-true, eqb-false, lt-ltb, le-ltb, ltb-true, ltb-false}
use lib.Dec.{ltb, eqb}
use lib.ListN.{length, get_or, set}
use lib.Seq.{get_or-set_same, get_or-set_other}
use Rattle.rules.specs.Bytes.{same}
use Rattle.rules.specs.Page.{service}
use Rattle.rules.specs.Card.{Slot, free, held, Record, none, stored, Card, with_permanent, with_temporary}
use Rattle.rules.specs.Store.{is_record, record_from, is_free, free_from, place_for, value_of, look_for, value_bytes, room, record_room, longest, room_limit, Written, wrote, no_room, write_temporary, write_permanent, write_in, write, area, permanently, temporarily}
use Rattle.rules.proofs.Choices.{both, either, not_so}

pub same_refl : (a : List ℕ) → same a a ≡ true
unfolding same
same_refl [] = refl
same_refl (x ∷ xs) = simp (eq-eqb x x refl) (same_refl xs)

pub same_eq : (a b : List ℕ) → same a b ≡ true → a ≡ b
unfolding same
same_eq [] [] e = refl
same_eq [] (y ∷ ys) e = absurd (false≢true e)
same_eq (x ∷ xs) [] e = absurd (false≢true e)
same_eq (x ∷ xs) (y ∷ ys) e =
    both (eqb x y) (λ t. ap₂ ◌∷◌ (eqb-true x y t) (same_eq xs ys (simp t at e))) (λ t. absurd (false≢true (simp t at e)))

-- a record is found under its own number and ID
own_record : (id : List ℕ) (n type : ℕ) (bytes : List ℕ) → is_record id n (stored id n type bytes) ≡ true
unfolding is_record
own_record id n type bytes = simp (eq-eqb n n refl) (same_refl id)

-- and under no other pair
module _ (id : List ℕ) (n : ℕ) (other : List ℕ) (m : ℕ) (apart : n ≡ m → id ≡ other → ⊥) where
  not_other : (r : Record) → is_record id n r ≡ true → is_record other m r ≡ false
  unfolding is_record
  not_other none e = absurd (false≢true e)
  not_other (stored i k type bytes) e =
      both (eqb k n)
      (λ t. both (eqb k m)
      (λ u. simp u (not_so (same i other) (λ v. apart (sym (eqb-true k n t) ∙ eqb-true k m u) (sym (same_eq i id (simp t at e)) ∙ same_eq i other v))))
      (λ u. simp u))
      (λ t. absurd (false≢true (simp t at e)))

module _ (id : List ℕ) (n : ℕ) where
  -- the place of a record among some
  abbrev found : List Record → ℕ
  found rs = record_from 0 id n rs

  shifted : (k : ℕ) (rs : List Record) → record_from k id n rs ≡ k + found rs
  unfolding record_from
  shifted k [] = omega arith
  shifted k (r ∷ rs) =
      both (is_record id n r) (λ t. simp t (omega arith))
      (λ t. simp t (let a = shifted (k + 1) rs in let b = shifted (0 + 1) rs in omega arith))

  found_cons : (r : Record) (rs : List Record) → is_record id n r ≡ false → found (r ∷ rs) ≡ suc (found rs)
  unfolding record_from
  found_cons r rs t = simp t (let a = shifted (0 + 1) rs in omega arith)

  found_first : (r : Record) (rs : List Record) → is_record id n r ≡ true → found (r ∷ rs) ≡ 0
  unfolding record_from
  found_first r rs t = simp t

  before_found : (rs : List Record) (j : ℕ) → j < found rs → is_record id n (get_or rs j none) ≡ false
  unfolding is_record
  before_found [] j h = refl
  before_found (r ∷ rs) zero h = both (is_record id n r) (λ t. absurd (let e = found_first r rs t in omega arith)) (λ t. t)
  before_found (r ∷ rs) (suc j) h =
      both (is_record id n r) (λ t. absurd (let e = found_first r rs t in omega arith))
      (λ t. before_found rs j (let e = found_cons r rs t in omega arith))

  at_found : (rs : List Record) → found rs < length rs → is_record id n (get_or rs (found rs) none) ≡ true
  unfolding record_from
  at_found [] h = absurd (omega arith)
  at_found (r ∷ rs) h =
      both (is_record id n r) (λ t. rw (found_first r rs t) t)
      (λ t. rw (found_cons r rs t) (at_found rs (let e = found_cons r rs t in omega arith)))

-- the first free place among some
first_free : (k : ℕ) (rs : List Record) → free_from k rs ≡ k + free_from 0 rs
unfolding free_from
first_free k [] = omega arith
first_free k (r ∷ rs) =
    both (is_free r) (λ t. simp t (omega arith))
    (λ t. simp t (let a = first_free (k + 1) rs in let b = first_free (0 + 1) rs in omega arith))

free_cons : (r : Record) (rs : List Record) → is_free r ≡ false → free_from 0 (r ∷ rs) ≡ suc (free_from 0 rs)
unfolding free_from
free_cons r rs t = simp t (let a = first_free (0 + 1) rs in omega arith)

free_first : (r : Record) (rs : List Record) → is_free r ≡ true → free_from 0 (r ∷ rs) ≡ 0
unfolding free_from
free_first r rs t = simp t

free_none : (r : Record) → is_free r ≡ true → r ≡ none
unfolding is_free
free_none none e = refl
free_none (stored i k type bytes) e = absurd (false≢true e)

at_free : (rs : List Record) → get_or rs (free_from 0 rs) none ≡ none
unfolding free_from
at_free [] = refl
at_free (r ∷ rs) =
    both (is_free r) (λ t. rw (free_first r rs t) (free_none r t)) (λ t. rw (free_cons r rs t) (at_free rs))

past_none : (rs : List Record) (k : ℕ) → length rs ≤ k → get_or rs k none ≡ none
past_none [] k h = refl
past_none (r ∷ rs) zero h = absurd (omega arith)
past_none (r ∷ rs) (suc k) h = past_none rs k (omega arith)

-- what a pair reads as, by the first record
module _ (id : List ℕ) (n : ℕ) (r : Record) (rs : List Record) where
  look_first : is_record id n r ≡ true → look_for id n (r ∷ rs) ≡ value_of r
  unfolding look_for
  look_first t = rw (found_first id n r rs t) refl

  look_next : is_record id n r ≡ false → look_for id n (r ∷ rs) ≡ look_for id n rs
  unfolding look_for
  look_next t = rw (found_cons id n r rs t) refl

-- how many records there are
unfoldable pub count : List Record → ℕ
count [] = 0
count (r ∷ rs) = cond (is_free r) (count rs) (count rs + 1)

count_free : (rs : List Record) → (count rs ≤ length rs) × (free_from 0 rs ≡ length rs → count rs ≡ length rs) × (count rs ≡ length rs → free_from 0 rs ≡ length rs) × (free_from 0 rs ≤ length rs)
unfolding count free_from
count_free [] = (omega arith, λ h. refl, λ h. refl, omega arith)
count_free (r ∷ rs) =
    let (a, b, c, d) = count_free rs in
    both (is_free r)
    (λ t. rw (free_first r rs t) (simp t (omega arith, λ h. absurd (omega arith), λ h. absurd (omega arith), omega arith)))
    (λ t. rw (free_cons r rs t) (simp t (omega arith, λ h. let e = b (omega arith) in omega arith, λ h. let e = c (omega arith) in omega arith, omega arith)))

-- a record of a pair stands among some
unfoldable pub has : List ℕ → ℕ → List Record → Bool
has id n [] = false
has id n (r ∷ rs) = cond (is_record id n r) true (has id n rs)

module _ (id : List ℕ) (n : ℕ) where
  has_found : (rs : List Record) → ltb (found id n rs) (length rs) ≡ has id n rs
  unfolding has record_from
  has_found [] = refl
  has_found (r ∷ rs) =
      both (is_record id n r)
      (λ t. rw (found_first id n r rs t) (simp t (lt-ltb 0 (suc (length rs)) (omega arith))))
      (λ t. rw (found_cons id n r rs t) (simp t (by (has id n rs) (has_found rs))))
    where
      by : (b : Bool) → ltb (found id n rs) (length rs) ≡ b → ltb (suc (found id n rs)) (suc (length rs)) ≡ b
      by true h = lt-ltb (suc (found id n rs)) (suc (length rs)) (let e = ltb-true (found id n rs) (length rs) h in omega arith)
      by false h = le-ltb (suc (found id n rs)) (suc (length rs)) (let e = ltb-false (found id n rs) (length rs) h in omega arith)

  -- Of the place where a record is written: no record before it has the pair, and the record there has no other pair.
  module _ (rs : List Record) (inside : place_for id n rs < length rs) where
    place_before : (j : ℕ) → j < place_for id n rs → is_record id n (get_or rs j none) ≡ false
    unfolding place_for
    place_before j h =
        both (ltb (found id n rs) (length rs))
        (λ t. before_found id n rs j (simp t at h))
        (λ t. before_found id n rs j (let l = ltb-false (found id n rs) (length rs) t in omega arith))

    place_other : (other : List ℕ) (m : ℕ) → (n ≡ m → id ≡ other → ⊥) → is_record other m (get_or rs (place_for id n rs) none) ≡ false
    unfolding place_for is_record
    place_other other m apart =
        both (ltb (found id n rs) (length rs))
        (λ t. simp t (not_other id n other m apart (get_or rs (found id n rs) none) (at_found id n rs (ltb-true _ _ t))))
        (λ t. simp t (rw (at_free rs) refl))

    -- what the place held before has the length of what the pair read as
    place_old : value_of (get_or rs (place_for id n rs) none) ≡ look_for id n rs
    unfolding place_for look_for value_of
    place_old =
        both (ltb (found id n rs) (length rs))
        (λ t. simp t)
        (λ t. simp t (rw (at_free rs, past_none rs (found id n rs) (ltb-false _ _ t)) refl))

  -- a written record is what its pair reads as
  look_own : (rs : List Record) (k type : ℕ) (bytes : List ℕ) → k < length rs → ((j : ℕ) → j < k → is_record id n (get_or rs j none) ≡ false) → look_for id n (set rs k (stored id n type bytes)) ≡ held type bytes
  unfolding value_of
  look_own [] k type bytes h f = absurd (omega arith)
  look_own (r ∷ rs) zero type bytes h f = look_first id n (stored id n type bytes) rs (own_record id n type bytes)
  look_own (r ∷ rs) (suc k) type bytes h f =
      look_next id n r _ (f 0 (omega arith)) ∙ look_own rs k type bytes (omega arith) (λ j l. f (suc j) (omega arith))

  -- a record that has not the pair, written over one that has it not, leaves what the pair reads as
  look_other : (rs : List Record) (k : ℕ) (x : Record) → is_record id n x ≡ false → is_record id n (get_or rs k none) ≡ false → look_for id n (set rs k x) ≡ look_for id n rs
  look_other [] k x e f = refl
  look_other (r ∷ rs) zero x e f = look_next id n x rs e ∙ sym (look_next id n r rs f)
  look_other (r ∷ rs) (suc k) x e f =
      both (is_record id n r)
      (λ t. look_first id n r _ t ∙ sym (look_first id n r rs t))
      (λ t. look_next id n r _ t ∙ look_other rs k x e f ∙ sym (look_next id n r rs t))

-- the room after a write: what the place held gives back its length
size : Record → ℕ
size r = length (value_bytes (value_of r))

room_set : (rs : List Record) (k : ℕ) (x : Record) → k < length rs → record_room (set rs k x) + size (get_or rs k none) ≡ record_room rs + size x
unfolding record_room size
room_set [] k x h = absurd (omega arith)
room_set (r ∷ rs) zero x h = omega arith
room_set (r ∷ rs) (suc k) x h = let e = room_set rs k x (omega arith) in omega arith

slot_room_set : (xs : List Slot) (k : ℕ) (x : Slot) → k < length xs → room (set xs k x) + length (value_bytes (get_or xs k free)) ≡ room xs + length (value_bytes x)
unfolding room
slot_room_set [] k x h = absurd (omega arith)
slot_room_set (y ∷ ys) zero x h = omega arith
slot_room_set (y ∷ ys) (suc k) x h = let e = slot_room_set ys k x (omega arith) in omega arith

unfoldable pub is_no_room : Written → Bool
is_no_room (wrote c) = false
is_no_room no_room = true

-- In the words of document 01: the value, the record count or the room would pass its limit; a replaced value gives back its old length first.
unfoldable pub passes_limit : List ℕ → ℕ → List ℕ → List Record → Bool
passes_limit id n bytes rs =
    cond (ltb 255 (length bytes)) true
    (cond (ltb 64 (cond (has id n rs) (count rs) (count rs + 1))) true
    (ltb 2048 (record_room rs - length (value_bytes (look_for id n rs)) + length bytes)))

unfoldable pub passes_slot_limit : ℕ → List ℕ → List Slot → Bool
passes_slot_limit k bytes xs =
    cond (ltb 255 (length bytes)) true (ltb 2048 (room xs - length (value_bytes (get_or xs k free)) + length bytes))

room_part : (rs : List Record) (k : ℕ) → size (get_or rs k none) ≤ record_room rs
unfolding record_room size value_of value_bytes
room_part [] k = omega arith
room_part (r ∷ rs) zero = omega arith
room_part (r ∷ rs) (suc k) = let e = room_part rs k in omega arith

slot_room_part : (xs : List Slot) (k : ℕ) → length (value_bytes (get_or xs k free)) ≤ room xs
unfolding room value_bytes
slot_room_part [] k = omega arith
slot_room_part (y ∷ ys) zero = omega arith
slot_room_part (y ∷ ys) (suc k) = let e = slot_room_part ys k in omega arith

module _ (id : List ℕ) (n type : ℕ) (bytes : List ℕ) (rs : List Record) where
  room_after : place_for id n rs < length rs → record_room (set rs (place_for id n rs) (stored id n type bytes)) ≡ record_room rs - length (value_bytes (look_for id n rs)) + length bytes
  unfolding size value_of value_bytes
  room_after h =
      let e = room_set rs (place_for id n rs) (stored id n type bytes) h in
      let p = room_part rs (place_for id n rs) in
      let o = ap (λ (x : Slot). length (value_bytes x)) (place_old id n rs h) in
      omega arith

  free_inside : length rs ≡ 64 → ltb (free_from 0 rs) (length rs) ≡ cond (ltb 64 (count rs + 1)) false true
  free_inside l =
      let (a, b, c, d) = count_free rs in
      both (eqb (count rs) (length rs))
      (λ t. let e = eqb-true (count rs) (length rs) t in let f = c e in simp (le-ltb (free_from 0 rs) (length rs) (omega arith), lt-ltb 64 (count rs + 1) (omega arith)))
      (λ t. let e = eqb-false (count rs) (length rs) t in
      both (ltb (free_from 0 rs) (length rs))
      (λ u. simp (u, le-ltb 64 (count rs + 1) (less a e)))
      (λ u. absurd (e (b (let f = ltb-false (free_from 0 rs) (length rs) u in omega arith)))))
    where
      less : count rs ≤ length rs → (count rs ≡ length rs → ⊥) → count rs + 1 ≤ 64
      less h f = omega arith

  -- there is a place exactly when the record count stays within its limit
  place_inside : length rs ≡ 64 → ltb (place_for id n rs) (length rs) ≡ cond (ltb 64 (cond (has id n rs) (count rs) (count rs + 1))) false true
  unfolding place_for
  place_inside l =
      let (a, b, c, d) = count_free rs in
      both (ltb (found id n rs) (length rs))
      (λ t. simp (t, sym (has_found id n rs), le-ltb 64 (count rs) (omega arith)))
      (λ t. simp (t, sym (has_found id n rs)) (free_inside l))

no_room_cond : (x : Bool) (d : Card) → is_no_room (cond x no_room (wrote d)) ≡ x
unfolding is_no_room
no_room_cond true d = refl
no_room_cond false d = refl

-- A write of a permanent variable gets 18 exactly when the value, the record count or the room would pass its limit.
pub permanent_18 : (c : Card) (n type : ℕ) (bytes : List ℕ) → area n ≡ permanently → length c.permanent ≡ 64 → is_no_room (write c n type bytes) ≡ passes_limit (service c.run.page) n bytes c.permanent
unfolding write write_in write_permanent is_no_room passes_limit
permanent_18 c n type bytes a l =
    let id = service c.run.page in
    let rs = c.permanent in
    both (ltb 255 (length bytes))
    (λ t. simp (t, a))
    (λ t. both (ltb 64 (cond (has id n rs) (count rs) (count rs + 1)))
    (λ u. simp (t, a, place_inside id n type bytes rs l, u))
    (λ u. let p : ltb (place_for id n rs) (length rs) ≡ true = place_inside id n type bytes rs l ∙ simp u in
    simp (t, a, u, p, room_after id n type bytes rs (ltb-true (place_for id n rs) (length rs) p)) (no_room_cond _ _)))

-- A write of a temporary variable gets 18 exactly when the value or the room would pass its limit: each of the 64 numbers has its place.
pub temporary_18 : (c : Card) (n type : ℕ) (bytes : List ℕ) → area n ≡ temporarily → n - 0x80 < length c.temporary → is_no_room (write c n type bytes) ≡ passes_slot_limit (n - 0x80) bytes c.temporary
unfolding write write_in write_temporary is_no_room passes_slot_limit value_bytes
temporary_18 c n type bytes a l =
    let e = slot_room_set c.temporary (n - 0x80) (held type bytes) l in
    let p = slot_room_part c.temporary (n - 0x80) in
    let r : room (set c.temporary (n - 0x80) (held type bytes)) ≡ room c.temporary - length (value_bytes (get_or c.temporary (n - 0x80) free)) + length bytes = omega arith in
    both (ltb 255 (length bytes)) (λ t. simp (t, a)) (λ t. simp (t, a, r) (no_room_cond _ _))

-- What a done write leaves: the pair reads as what was written, every other pair and number as before.
pub record PermanentlyWritten (id : List ℕ) (n type : ℕ) (bytes : List ℕ) (c d : Card) : Type 0 where
  pub own : look_for id n d.permanent ≡ held type bytes
  pub others : (other : List ℕ) (m : ℕ) → (n ≡ m → id ≡ other → ⊥) → look_for other m d.permanent ≡ look_for other m c.permanent
  pub temporary : d.temporary ≡ c.temporary

pub record TemporarilyWritten (k type : ℕ) (bytes : List ℕ) (c d : Card) : Type 0 where
  pub own : get_or d.temporary k free ≡ held type bytes
  pub others : (j : ℕ) → (j ≡ k → ⊥) → get_or d.temporary j free ≡ get_or c.temporary j free
  pub permanent : d.permanent ≡ c.permanent

abbrev Wrote : (Card → Type 0) → Written → Type 0
Wrote P (wrote d) = P d
Wrote P no_room = Prim.Unit {0}

module _ (c : Card) (n type : ℕ) (bytes : List ℕ) where
  permanent_put : (id : List ℕ) → Wrote (PermanentlyWritten id n type bytes c) (write_permanent c (place_for id n c.permanent) (stored id n type bytes))
  unfolding write_permanent with_permanent
  permanent_put id =
      let k = place_for id n c.permanent in
      let x = stored id n type bytes in
      either (Wrote (PermanentlyWritten id n type bytes c)) (ltb k (length c.permanent))
      (λ t. let h = ltb-true k (length c.permanent) t in
      either (Wrote (PermanentlyWritten id n type bytes c)) (ltb room_limit (record_room (set c.permanent k x))) {a = no_room} (λ _. tt)
      (λ _. record {
        own = look_own id n c.permanent k type bytes h (place_before id n c.permanent h);
        others = λ other m apart. look_other other m c.permanent k x (not_other id n other m apart x (own_record id n type bytes)) (place_other id n c.permanent h other m apart);
        temporary = refl;
      }))
      (λ _. tt)

  pub permanent_reads : (d : Card) → area n ≡ permanently → write c n type bytes ≡ wrote d → PermanentlyWritten (service c.run.page) n type bytes c d
  unfolding write write_in
  permanent_reads d a e =
      subst (Wrote (PermanentlyWritten (service c.run.page) n type bytes c)) e
      (either (Wrote (PermanentlyWritten (service c.run.page) n type bytes c)) (ltb longest (length bytes)) (λ _. tt) (λ _. rw a (permanent_put (service c.run.page))))

  temporary_put : (k : ℕ) → k < length c.temporary → Wrote (TemporarilyWritten k type bytes c) (write_temporary c k (held type bytes))
  unfolding write_temporary with_temporary
  temporary_put k h =
      either (Wrote (TemporarilyWritten k type bytes c)) (ltb room_limit (room (set c.temporary k (held type bytes)))) {a = no_room} (λ _. tt)
      (λ _. record {
        own = get_or-set_same c.temporary k (held type bytes) free h;
        others = λ j apart. get_or-set_other c.temporary k j (held type bytes) free apart;
        permanent = refl;
      })

  pub temporary_reads : (d : Card) → area n ≡ temporarily → n - 0x80 < length c.temporary → write c n type bytes ≡ wrote d → TemporarilyWritten (n - 0x80) type bytes c d
  unfolding write write_in
  temporary_reads d a h e =
      subst (Wrote (TemporarilyWritten (n - 0x80) type bytes c)) e
      (either (Wrote (TemporarilyWritten (n - 0x80) type bytes c)) (ltb longest (length bytes)) (λ _. tt) (λ _. rw a (temporary_put (n - 0x80) h)))
