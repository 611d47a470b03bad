-- Permanent areas in canonical form with the same records are the same array.
-- Assumes nothing.
use Prim.Native.Nat.{ℕ, ◌+◌, ◌-◌, ◌≤◌}
use mathlib.Core.Bool.{true, false, cond}
use mathlib.Core.List.{List, [], ◌∷◌, ◌++◌}
use mathlib.Core.Path.{◌≡◌, sym, ap, ◌∙◌}
use native.Mathlib.Omega.{arith}
use lib.ListN.{length, get_or, take, drop, length-take, length-drop, take-append-drop}
use lib.Seq.{drop-drop, length-take-le, take_all, take-take}
use lib.Dec.{eqb}
use borrow.Author.Tests.{eqb-true}
use Rattle.leaf.proofs.Cases.{both}
use Rattle.pour.specs.Pour.{blank, padded, zeros}
use Rattle.pour.specs.Stride.{each, all}
use Rattle.pour.proofs.PadLaws.{blank_zeros, padded_take}
use Rattle.pour.proofs.StrideLaws.{drop_take, each_same, all_first, all_rest}
use Rattle.rules.specs.Bytes.{part}
use Rattle.records.specs.Records.{record_in, records, laid, tidy_fields, tidy_record, tidy_records}
use Rattle.records.proofs.FineLaws.{id_fits, value_fits, spare_zero, id_zero, value_zero}

-- the fields of a record in canonical form are their contents and zeros
module _ (p : List ℕ) (l : length p ≡ 280) (u : tidy_fields p ≡ true) where
  id_in : padded 16 (part p 8 (8 + get_or p 2 0)) ≡ take 16 (drop 8 p)
  unfolding part
  id_in =
      let n = get_or p 2 0 in
      let b : n ≤ 16 = id_fits p u in
      let m : 8 + n - 8 ≡ n = omega arith in
      let o : 24 - (8 + n) ≡ 16 - n = omega arith in
      let t : take n (take 16 (drop 8 p)) ≡ take n (drop 8 p) = take-take n 16 (drop 8 p) b in
      let k : length (take 16 (drop 8 p)) ≡ 16 = length-take-le 16 (drop 8 p) (simp length-drop (omega arith)) in
      let z : zeros (drop n (take 16 (drop 8 p))) ≡ true = rw (drop_take n 16 (drop 8 p), drop-drop n 8 p, ← o) (id_zero p u) in
      rw (m, ← t) (padded_take 16 n (take 16 (drop 8 p)) k b z)

  value_in : padded 256 (part p 24 (24 + get_or p 4 0)) ≡ drop 24 p
  unfolding part
  value_in =
      let n = get_or p 4 0 in
      let c : n ≤ 255 = value_fits p u in
      let m : 24 + n - 24 ≡ n = omega arith in
      let k : length (drop 24 p) ≡ 256 = length-drop 24 p ∙ omega arith in
      let o : length (drop (24 + n) p) ≤ 280 - (24 + n) = simp length-drop (omega arith) in
      let z : zeros (drop n (drop 24 p)) ≡ true = rw (drop-drop n 24 p, ← (take_all (280 - (24 + n)) (drop (24 + n) p) o)) (value_zero p u) in
      rw m (padded_take 256 n (drop 24 p) k (omega arith) z)

  fields_in : padded 16 (part p 8 (8 + get_or p 2 0)) ++ padded 256 (part p 24 (24 + get_or p 4 0)) ≡ drop 8 p
  fields_in = rw (id_in, value_in) (ap (λ (q : List ℕ). take 16 (drop 8 p) ++ q) (sym (drop-drop 16 8 p)) ∙ take-append-drop 16 (drop 8 p))

  id_long : length (part p 8 (8 + get_or p 2 0)) ≡ get_or p 2 0
  unfolding part
  id_long = let b = id_fits p u in simp (length-take, length-drop) (omega arith)

  value_long : length (part p 24 (24 + get_or p 4 0)) ≡ get_or p 4 0
  unfolding part
  value_long = let c = value_fits p u in simp (length-take, length-drop) (omega arith)

spare : (p : List ℕ) → tidy_fields p ≡ true → part p 5 8 ≡ blank (length (part p 5 8))
spare p u = blank_zeros (part p 5 8) (spare_zero p u)

-- a record in canonical form has just the bytes of what it means
laid_in : (p : List ℕ) → length p ≡ 280 → tidy_record p ≡ true → laid (record_in p) ≡ p
unfolding laid record_in tidy_record part
laid_in [] l e = absurd (omega arith)
laid_in (a ∷ []) l e = absurd (omega arith)
laid_in (a ∷ b ∷ []) l e = absurd (omega arith)
laid_in (a ∷ b ∷ c ∷ []) l e = absurd (omega arith)
laid_in (a ∷ b ∷ c ∷ d ∷ []) l e = absurd (omega arith)
laid_in (a ∷ b ∷ c ∷ d ∷ f ∷ []) l e = absurd (omega arith)
laid_in (a ∷ b ∷ c ∷ d ∷ f ∷ x ∷ []) l e = absurd (omega arith)
laid_in (a ∷ b ∷ c ∷ d ∷ f ∷ x ∷ y ∷ []) l e = absurd (omega arith)
laid_in (a ∷ b ∷ c ∷ d ∷ f ∷ x ∷ y ∷ z ∷ r) l e =
    let p = a ∷ b ∷ c ∷ d ∷ f ∷ x ∷ y ∷ z ∷ r in
    both (eqb a 0)
    (λ t. rw t (sym (blank_zeros p (rw t at e) ∙ ap (λ (m : ℕ). blank m) l)))
    (λ t.
    let q : cond (eqb a 1) (tidy_fields p) false ≡ true = rw t at e in
    let one : a ≡ 1 = eqb-true a 1 (all_first (eqb a 1) (tidy_fields p) q) in
    let u : tidy_fields p ≡ true = all_rest (eqb a 1) (tidy_fields p) q in
    let s : x ∷ y ∷ z ∷ [] ≡ 0 ∷ 0 ∷ 0 ∷ [] = spare p u in
    let x0 : x ≡ 0 = cc in
    let y0 : y ≡ 0 = cc in
    let z0 : z ≡ 0 = cc in
    rw (t, id_long p l u, value_long p l u, fields_in p l u, one, x0, y0, z0))

one_record : (p q : List ℕ) → length p ≡ 280 → length q ≡ 280 → tidy_record p ≡ true → tidy_record q ≡ true → record_in p ≡ record_in q → p ≡ q
one_record p q l m s t e = sym (laid_in p l s) ∙ ap laid e ∙ laid_in q m t

pub records_same : (a b : List ℕ) → tidy_records a ≡ true → tidy_records b ≡ true → records a ≡ records b → a ≡ b
unfolding tidy_records records
records_same a b s t e =
    each_same record_in tidy_record 280 one_record 64 a b
    (eqb-true (length a) 17920 (all_first (eqb (length a) 17920) (all (each tidy_record 64 280 a)) s))
    (eqb-true (length b) 17920 (all_first (eqb (length b) 17920) (all (each tidy_record 64 280 b)) t))
    (all_rest (eqb (length a) 17920) (all (each tidy_record 64 280 a)) s)
    (all_rest (eqb (length b) 17920) (all (each tidy_record 64 280 b)) t)
    e
