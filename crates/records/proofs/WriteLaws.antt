-- A record written in the array is a record set in the list, and the array stays in canonical form.
-- Assumes nothing.
use Prim.Native.Nat.{ℕ, ◌+◌, ◌-◌, ◌*◌, ◌≤◌, ◌<◌}
use mathlib.Core.Bool.{Bool, true}
use mathlib.Core.List.{List, [], ◌∷◌, ◌++◌, append-nil, append_assoc}
use mathlib.Core.Path.{◌≡◌, refl, sym, ap, ◌∙◌}
use native.Mathlib.Omega.{arith}
use Prim.{Unit}
use lib.ListN.{length, set, take, drop, replicate, drop_of_length-le, length-append, length-take, length-drop, length-replicate}
use lib.Seq.{take_all, take_at, drop_at, drop-drop, take-append-le, drop-append-le}
use lib.Dec.{eqb}
use borrow.Author.Tests.{le-leb, eq-eqb}
use Rattle.pour.specs.Pour.{blank, poured, padded, zeros}
use Rattle.pour.specs.Stride.{each, all}
use Rattle.pour.proofs.PourLaws.{length_poured}
use Rattle.pour.proofs.PadLaws.{length_padded, take_padded, drop_padded, zeros_blank}
use Rattle.pour.proofs.StrideLaws.{each_blank, each_poured, all_poured, all_rest}
use Rattle.rules.specs.Bytes.{part}
use Rattle.rules.specs.Card.{Record, none, stored}
use Rattle.records.specs.Records.{record_in, records, laid, tidy_fields, tidy_record, tidy_records, with_record}

-- a record that fits its bytes
abbrev pub Fits : Record → Type 0
Fits none = Unit {0}
Fits (stored id n type bytes) = (length id ≤ 16) × (length bytes ≤ 255)

-- the fields of a record that fits
module _ (id bytes : List ℕ) (s : length id ≤ 16) (t : length bytes ≤ 255) where
  abbrev fields : List ℕ
  fields = padded 16 id ++ padded 256 bytes

  fields_long : length fields ≡ 272
  fields_long = simp length-append (omega (arith, length_padded 16 id s, length_padded 256 bytes (omega arith)))

  id_field : take (8 + length id - 8) fields ≡ id
  id_field =
      let m : 8 + length id - 8 ≡ length id = omega arith in
      rw m (take-append-le (length id) (padded 16 id) (padded 256 bytes) (omega (arith, length_padded 16 id s)) ∙ take_padded 16 id)

  second : drop 16 fields ≡ padded 256 bytes
  second = drop_at (padded 16 id) (padded 256 bytes) 16 (length_padded 16 id s)

  value_field : take (24 + length bytes - 24) (drop 16 fields) ≡ bytes
  value_field = let m : 24 + length bytes - 24 ≡ length bytes = omega arith in rw (m, second) (take_padded 256 bytes)

  id_rest : take (24 - (8 + length id)) (drop (length id) fields) ≡ blank (16 - length id)
  id_rest =
      let m : 24 - (8 + length id) ≡ 16 - length id = omega arith in
      let d : drop (length id) fields ≡ blank (16 - length id) ++ padded 256 bytes =
      drop-append-le (length id) (padded 16 id) (padded 256 bytes) (omega (arith, length_padded 16 id s)) ∙ rw (drop_padded 16 id) in
      rw (m, d) (take_at (blank (16 - length id)) (padded 256 bytes) (16 - length id) (length-replicate (16 - length id) 0))

  value_rest : take (280 - (24 + length bytes)) (drop (length bytes) (drop 16 fields)) ≡ blank (256 - length bytes)
  value_rest =
      let m : 280 - (24 + length bytes) ≡ 256 - length bytes = omega arith in
      rw (m, second, drop_padded 256 bytes) (take_all (256 - length bytes) (blank (256 - length bytes)) (omega (arith, length-replicate {A = ℕ} (256 - length bytes) 0)))

length_laid : (x : Record) → Fits x → length (laid x) ≡ 280
unfolding laid
length_laid none s = length-replicate {A = ℕ} 280 0
length_laid (stored id n type bytes) s = let e = fields_long id bytes s.0 s.1 in omega arith

in_laid : (x : Record) → Fits x → record_in (laid x) ≡ x
unfolding laid record_in part
in_laid none s = refl
in_laid (stored id n type bytes) s = rw (id_field id bytes s.0 s.1, value_field id bytes s.0 s.1)

tidy_laid : (x : Record) → Fits x → tidy_record (laid x) ≡ true
unfolding laid tidy_record tidy_fields part zeros
tidy_laid none s = zeros_blank 280
tidy_laid (stored id n type bytes) s =
    let p = laid (stored id n type bytes) in
    let d : drop (8 + length id) p ≡ drop (length id) (padded 16 id ++ padded 256 bytes) = sym (drop-drop (length id) 8 p) in
    let e : drop (24 + length bytes) p ≡ drop (length bytes) (drop 16 (padded 16 id ++ padded 256 bytes)) = sym (drop-drop (length bytes) 24 p) in
    simp (le-leb _ _ s.0, le-leb _ _ s.1, d, e, id_rest id bytes s.0 s.1, value_rest id bytes s.0 s.1, zeros_blank (16 - length id), zeros_blank (256 - length bytes))

module _ (p y z v id : List ℕ) (number type : ℕ) (l : length p ≡ 280) (short : length id ≤ 16) (e : y ≡ 1 ∷ number ∷ length id ∷ type ∷ length v ∷ 0 ∷ 0 ∷ 0 ∷ []) (f : z ≡ padded (length (take 16 (drop 8 (y ++ drop 8 p)))) id) where
  abbrev first : List ℕ
  first = y ++ drop 8 p

  abbrev next : List ℕ
  next = take 8 first ++ (z ++ drop 16 (drop 8 first))

  pub lay_is : (w : List ℕ) → w ≡ padded (length (take 256 (drop 24 next))) v → take 24 next ++ (w ++ drop 256 (drop 24 next)) ≡ laid (stored id number type v)
  unfolding laid
  lay_is w g =
      let m : length y ≡ 8 = ap length e in
      let t : take 8 first ≡ y = take_at y (drop 8 p) 8 m in
      let d : drop 8 first ≡ drop 8 p = drop_at y (drop 8 p) 8 m in
      let n : length (take 16 (drop 8 p)) ≡ 16 = simp (length-take, length-drop) (omega arith) in
      let i : z ≡ padded 16 id = f ∙ rw (d, n) in
      let j : length z ≡ 16 = ap length i ∙ length_padded 16 id short in
      let q : next ≡ (y ++ z) ++ drop 24 p = rw (t, d, drop-drop 16 8 p) (sym (append_assoc y z (drop 24 p))) in
      let o : length (y ++ z) ≡ 24 = simp length-append (omega arith) in
      let t₂ : take 24 next ≡ y ++ z = ap (take 24) q ∙ take_at (y ++ z) (drop 24 p) 24 o in
      let d₂ : drop 24 next ≡ drop 24 p = ap (drop 24) q ∙ drop_at (y ++ z) (drop 24 p) 24 o in
      let k : length (drop 24 p) ≡ 256 = length-drop 24 p ∙ omega arith in
      let r : w ≡ padded 256 v = g ∙ rw (d₂, take_all 256 (drop 24 p) (omega arith), k) in
      rw (t₂, d₂, drop_of_length-le (drop 24 p) {i = 256} (omega arith), r, append-nil (padded 256 v), append_assoc y z (padded 256 v), i, e)

-- what is written is seen, and nothing else
pub tidy_of : (a : List ℕ) → length a ≡ 17920 → all (each tidy_record 64 280 a) ≡ true → tidy_records a ≡ true
unfolding tidy_records
tidy_of a l e = simp (eq-eqb _ _ l) e

module _ (a : List ℕ) (k : ℕ) (x : Record) (l : length a ≡ 17920) (h : k < 64) (s : Fits x) where
  pub records_with : records (with_record a k x) ≡ set (records a) k x
  unfolding records with_record
  records_with = each_poured record_in 64 280 a k (laid x) h (length_laid x s) (omega arith) ∙ ap (set (records a) k) (in_laid x s)

  length_with : length (with_record a k x) ≡ 17920
  unfolding with_record
  length_with = let m = length_laid x s in length_poured a (k * 280) (laid x) (omega arith) ∙ l

  pub tidy_with : tidy_records a ≡ true → tidy_records (with_record a k x) ≡ true
  unfolding tidy_records with_record
  tidy_with t =
      tidy_of (with_record a k x) length_with
      (all_poured tidy_record 64 280 a k (laid x) h (length_laid x s) (omega arith) (tidy_laid x s) (all_rest (eqb (length a) 17920) (all (each tidy_record 64 280 a)) t))

-- the same as the code has it
module _ (a id v : List ℕ) (k number type : ℕ) (h : k < 64) (s : length id ≤ 16) (t : length v ≤ 255) where
  pub lay_at_is : (z : List ℕ) → z ≡ laid (stored id number type v) → take (k * 280) a ++ (z ++ drop (k * 280 + 280 - k * 280) (drop (k * 280) a)) ≡ with_record a k (stored id number type v)
  unfolding with_record poured
  lay_at_is z e =
      let m : k * 280 + 280 - k * 280 ≡ 280 = omega arith in
      rw (e, m, length_laid (stored id number type v) (s, t))

  module _ (b : List ℕ) (e : b ≡ with_record a k (stored id number type v)) (l : length a ≡ 17920) where
    pub write_records : records b ≡ set (records a) k (stored id number type v)
    write_records = ap records e ∙ records_with a k (stored id number type v) l h (s, t)

    pub write_tidy : tidy_records a ≡ true → tidy_records b ≡ true
    write_tidy u = ap tidy_records e ∙ tidy_with a k (stored id number type v) l h (s, t) u

pub ruleset write_laws = (lay_is, lay_at_is, write_records, write_tidy)

-- an area of zeros holds nothing
pub records_blank : records (blank 17920) ≡ replicate 64 none
unfolding records record_in
records_blank = each_blank record_in 64 280

pub tidy_blank : tidy_records (blank 17920) ≡ true
unfolding tidy_record all
tidy_blank =
    tidy_of (blank 17920) (length-replicate {A = ℕ} 17920 0)
    (ap all (each_blank tidy_record 64 280) ∙ ap (λ (t : Bool). all (replicate 64 t)) (zeros_blank 280))
