-- The permanent records with some services' values hidden: another service finds and writes the same, in the same room.
-- Assumes nothing.
use mathlib.Core.Path.{◌≡◌, refl, sym, ap, ap₂}
use mathlib.Core.Bool.{Bool, true, false, cond}
use mathlib.Core.List.{List, [], ◌∷◌, map}
use Prim.Native.Nat.{ℕ, zero, suc, ◌+◌}
use native.Mathlib.Numerals.{add-one}
use lib.ListN.{length, get_or, set, length-replicate, length-map, get_or-map}
use lib.Seq.{map-set_same}
use lib.Dec.{ltb, eqb}
use Rattle.rules.specs.Bytes.{same}
use Rattle.rules.specs.Card.{Record, none, stored}
use Rattle.rules.specs.Store.{is_record, record_from, is_free, free_from, place_for, value_of, look_for, value_bytes, record_room}
use Rattle.rules.specs.IsCard.{value_fine, record_fine, repeats, records_fine}
use Rattle.rules.specs.Hidden.{blank_bytes}
use Rattle.rules.proofs.Choices.{both}
use Rattle.rules.proofs.Writes.{same_eq}
use Rattle.rules.proofs.BlankTests.{ap_cond, second}

-- a type that a card may hold counts as 0
unfoldable pub veil_type : Bool → ℕ → ℕ
veil_type hidden type = cond hidden (cond (ltb type 5) 0 type) type

-- a record whose service is hidden has zeros for its value
unfoldable pub veil : (List ℕ → Bool) → Record → Record
veil hides none = none
veil hides (stored id n type bytes) = stored id n (veil_type (hides id) type) (blank_bytes (hides id) bytes)

unfoldable pub veils : (List ℕ → Bool) → List Record → List Record
veils hides rs = map (veil hides) rs

-- the records whose services are hidden, each in its place
unfoldable pub hidden_of : (List ℕ → Bool) → Record → Record
hidden_of hides none = none
hidden_of hides (stored id n type bytes) = cond (hides id) (stored id n type bytes) none

unfoldable pub hiddens : (List ℕ → Bool) → List Record → List Record
hiddens hides rs = map (hidden_of hides) rs

map_set : {A B : Type 0} (f : A → B) (l : List A) (i : ℕ) (a : A) → map f (set l i a) ≡ set (map f l) i (f a)
map_set f [] i a = refl
map_set f (x ∷ xs) zero a = refl
map_set {B = B} f (x ∷ xs) (suc i) a = ap (λ (l : List B). f x ∷ l) (map_set f xs i a)

pub from_next : (k : ℕ) (id : List ℕ) (n : ℕ) (rs : List Record) → record_from (k + 1) id n rs ≡ record_from k id n rs + 1
unfolding record_from
from_next k id n [] = refl
from_next k id n (r ∷ rs) = rw (from_next (k + 1) id n rs) (sym (ap_cond (λ (x : ℕ). x + 1) (is_record id n r) _ _))

free_next : (k : ℕ) (rs : List Record) → free_from (k + 1) rs ≡ free_from k rs + 1
unfolding free_from
free_next k [] = refl
free_next k (r ∷ rs) = rw (free_next (k + 1) rs) (sym (ap_cond (λ (x : ℕ). x + 1) (is_free r) _ _))

-- what stands at the place of a record: that record, or none
pub found : (id : List ℕ) (n : ℕ) (rs : List Record) (P : Record → Type 0) → P none → ((r : Record) → is_record id n r ≡ true → P r) → P (get_or rs (record_from 0 id n rs) none)
unfolding record_from
found id n [] P p q = p
found id n (r ∷ rs) P p q =
    both (is_record id n r)
    (λ e. rw e (q r e))
    (λ e. rw (e, from_next 0 id n rs, add-one) (found id n rs P p q))

pub found_free : (rs : List Record) → get_or rs (free_from 0 rs) none ≡ none
unfolding free_from is_free
found_free [] = refl
found_free (none ∷ rs) = refl
found_free (stored id n type bytes ∷ rs) = rw (free_next 0 rs, add-one) (found_free rs)

module _ (hides : List ℕ → Bool) where
  length_blank : (t : Bool) (v : List ℕ) → length (blank_bytes t v) ≡ length v
  unfolding blank_bytes
  length_blank true v = length-replicate (length v) 0
  length_blank false v = refl

  pub is_veil : (id : List ℕ) (n : ℕ) (r : Record) → is_record id n (veil hides r) ≡ is_record id n r
  unfolding is_record veil
  is_veil id n none = refl
  is_veil id n (stored i m type bytes) = refl

  free_veil : (r : Record) → is_free (veil hides r) ≡ is_free r
  unfolding is_free veil
  free_veil none = refl
  free_veil (stored i m type bytes) = refl

  from_veil : (k : ℕ) (id : List ℕ) (n : ℕ) (rs : List Record) → record_from k id n (veils hides rs) ≡ record_from k id n rs
  unfolding record_from veils
  from_veil k id n [] = refl
  from_veil k id n (r ∷ rs) = rw (is_veil id n r, from_veil (k + 1) id n rs)

  free_from_veil : (k : ℕ) (rs : List Record) → free_from k (veils hides rs) ≡ free_from k rs
  unfolding free_from veils
  free_from_veil k [] = refl
  free_from_veil k (r ∷ rs) = rw (free_veil r, free_from_veil (k + 1) rs)

  pub length_veils : (rs : List Record) → length (veils hides rs) ≡ length rs
  unfolding veils
  length_veils rs = length-map rs (veil hides)

  pub place_veil : (id : List ℕ) (n : ℕ) (rs : List Record) → place_for id n (veils hides rs) ≡ place_for id n rs
  unfolding place_for
  place_veil id n rs = rw (from_veil 0 id n rs, free_from_veil 0 rs, length_veils rs)

  set_veil : (rs : List Record) (k : ℕ) (r : Record) → veils hides (set rs k r) ≡ set (veils hides rs) k (veil hides r)
  unfolding veils
  set_veil rs k r = map_set (veil hides) rs k r

  length_value_lem : (r : Record) → length (value_bytes (value_of (veil hides r))) ≡ length (value_bytes (value_of r))
  unfolding veil value_of value_bytes
  length_value_lem none = refl
  length_value_lem (stored id n type bytes) = length_blank (hides id) bytes

  pub room_veil : (rs : List Record) → record_room (veils hides rs) ≡ record_room rs
  unfolding record_room veils
  room_veil [] = refl
  room_veil (r ∷ rs) = ap₂ ◌+◌ (length_value_lem r) (room_veil rs)

  type_veil : (t : Bool) (type : ℕ) → ltb (veil_type t type) 5 ≡ ltb type 5
  unfolding veil_type
  type_veil true type = both (ltb type 5) (λ e. rw e) (λ e. rw (e, e))
  type_veil false type = refl

  value_veil : (t : Bool) (type : ℕ) (bytes : List ℕ) → value_fine (veil_type t type) (blank_bytes t bytes) ≡ value_fine type bytes
  unfolding value_fine
  value_veil t type bytes = rw (type_veil t type, length_blank t bytes)

  fine_veil : (r : Record) → record_fine (veil hides r) ≡ record_fine r
  unfolding record_fine veil
  fine_veil none = refl
  fine_veil (stored id n type bytes) = rw (value_veil (hides id) type bytes)

  repeats_veil : (r : Record) (rs : List Record) → repeats (veil hides r) (veils hides rs) ≡ repeats r rs
  unfolding repeats veil veils
  repeats_veil none rs = refl
  repeats_veil (stored id n type bytes) [] = refl
  repeats_veil (stored id n type bytes) (r ∷ rs) = rw (is_veil id n r, repeats_veil (stored id n type bytes) rs)

  pub records_veil : (rs : List Record) → records_fine (veils hides rs) ≡ records_fine rs
  unfolding records_fine veils
  records_veil [] = refl
  records_veil (r ∷ rs) = rw (fine_veil r, repeats_veil r rs, records_veil rs)

  module _ (id : List ℕ) (n : ℕ) (open-id : hides id ≡ false) where
    other_id : (i : List ℕ) (m : ℕ) → cond (eqb m n) (same i id) false ≡ true → hides i ≡ false
    other_id i m e = rw (same_eq i id (second (eqb m n) _ e)) open-id

    other : (r : Record) → is_record id n r ≡ true → veil hides r ≡ r
    unfolding is_record veil veil_type blank_bytes
    other none e = refl
    other (stored i m type bytes) e = rw (other_id i m e)

    other_hidden : (r : Record) → is_record id n r ≡ true → hidden_of hides r ≡ none
    unfolding is_record hidden_of
    other_hidden none e = refl
    other_hidden (stored i m type bytes) e = rw (other_id i m e)

    pub look_veil : (rs : List Record) → look_for id n (veils hides rs) ≡ look_for id n rs
    unfolding look_for veils veil
    look_veil rs =
        rw (from_veil 0 id n rs, get_or-map (veil hides) rs (record_from 0 id n rs) none)
        (ap value_of (found id n rs (λ r. veil hides r ≡ r) refl other))

    at_place : (rs : List Record) → hidden_of hides (get_or rs (place_for id n rs) none) ≡ none
    unfolding place_for hidden_of
    at_place rs =
        both (ltb (record_from 0 id n rs) (length rs))
        (λ e. rw e (found id n rs (λ r. hidden_of hides r ≡ none) refl other_hidden))
        (λ e. rw (e, found_free rs))

    pub write_veil : (rs : List Record) (k type : ℕ) (bytes : List ℕ) → set (veils hides rs) k (stored id n type bytes) ≡ veils hides (set rs k (stored id n type bytes))
    unfolding veil veil_type blank_bytes
    write_veil rs k type bytes = rw (set_veil rs k (stored id n type bytes), open-id)

    -- a write of another service leaves the hidden records as they are
    pub hiddens_write : (rs : List Record) (type : ℕ) (bytes : List ℕ) → hiddens hides (set rs (place_for id n rs) (stored id n type bytes)) ≡ hiddens hides rs
    unfolding hiddens hidden_of
    hiddens_write rs type bytes = map-set_same (hidden_of hides) rs (place_for id n rs) (stored id n type bytes) none (rw (open-id, at_place rs))
