-- The test of number 35 on a record.
-- Assumes nothing.
use Prim.Native.Nat.{ℕ, ◌/◌, ◌+◌, ◌-◌, ◌≤◌, ◌<◌}
use mathlib.Core.Bool.{Bool, true, false, cond}
use mathlib.Core.List.{List, []}
use mathlib.Core.Path.{◌≡◌, sym, ◌∙◌}
use native.Mathlib.Omega.{arith}
use lib.ListN.{length, get_or, take, drop, length-take, length-drop}
use lib.Dec.{ltb, leb}
use borrow.Author.Tests.{eq-eqb, ne_eqb, le-leb, lt-leb, leb-true}
use Rattle.leaf.proofs.Cases.{both}
use Rattle.std.specs.Prelude.{IsTrue, ◌↔◌, EachIndex}
use Rattle.std.specs.Simd.{first_chunks}
use Rattle.pour.specs.Stride.{each, all}
use Rattle.pour.specs.Pour.{zeros}
use Rattle.pour.proofs.StrideLaws.{false_both, same_or_false, all_first, all_rest, all_by}
use Rattle.rules.specs.Bytes.{part}
use Rattle.rules.specs.IsCard.{within, value_fine, record_fine}
use Rattle.records.specs.Records.{record_in, tidy_fields, tidy_record, sound_record}

-- what fields in canonical form have
module _ (p : List ℕ) (u : tidy_fields p ≡ true) where
  abbrev value_rest : Bool
  value_rest = zeros (part p (24 + get_or p 4 0) 280)

  abbrev id_rest : Bool
  id_rest = zeros (part p (8 + get_or p 2 0) 24)

  abbrev rest₁ : Bool
  rest₁ = cond (zeros (part p 5 8)) (cond id_rest value_rest false) false

  abbrev rest₂ : Bool
  rest₂ = cond (leb (get_or p 4 0) 255) rest₁ false

  pub id_fits : get_or p 2 0 ≤ 16
  unfolding tidy_fields
  id_fits = leb-true _ _ (all_first (leb (get_or p 2 0) 16) rest₂ u)

  fits : rest₂ ≡ true
  unfolding tidy_fields
  fits = all_rest (leb (get_or p 2 0) 16) rest₂ u

  pub value_fits : get_or p 4 0 ≤ 255
  value_fits = leb-true _ _ (all_first (leb (get_or p 4 0) 255) rest₁ fits)

  zero : rest₁ ≡ true
  zero = all_rest (leb (get_or p 4 0) 255) rest₁ fits

  pub spare_zero : zeros (part p 5 8) ≡ true
  spare_zero = all_first (zeros (part p 5 8)) (cond id_rest value_rest false) zero

  pub id_zero : zeros (part p (8 + get_or p 2 0) 24) ≡ true
  id_zero = all_first id_rest value_rest (all_rest (zeros (part p 5 8)) (cond id_rest value_rest false) zero)

  pub value_zero : zeros (part p (24 + get_or p 4 0) 280) ≡ true
  value_zero = all_rest id_rest value_rest (all_rest (zeros (part p 5 8)) (cond id_rest value_rest false) zero)

module _ (p : List ℕ) (n : ℕ) (i : n ≡ get_or p 2 0) where
  pub tidy_long : 16 < n → false ≡ tidy_fields p
  unfolding tidy_fields
  tidy_long h = simp (← i, lt-leb _ _ h)

  module _ (h : n ≤ 16) (m : ℕ) (j : m ≡ get_or p 4 0) (s : m < 256) (a : Bool) (e : a ≡ zeros (take 3 (drop 5 p))) where
    short : m ≤ 255
    short = omega arith

    pub tidy_spare : a ≡ false → false ≡ tidy_fields p
    unfolding tidy_fields part
    tidy_spare f = simp (← i, ← j, le-leb _ _ h, le-leb _ _ short, ← e, f)

    module _ (f : a ≡ true) (b : Bool) (g : b ≡ zeros (take (24 - (8 + n)) (drop (8 + n) p))) where
      pub tidy_id : b ≡ false → false ≡ tidy_fields p
      unfolding tidy_fields part
      tidy_id k = simp (← i, ← j, le-leb _ _ h, le-leb _ _ short, ← e, f, ← g, k)

      pub tidy_value : b ≡ true → (r : Bool) → r ≡ zeros (take (280 - (24 + m)) (drop (24 + m) p)) → r ≡ tidy_fields p
      unfolding tidy_fields part
      tidy_value k r l = simp (← i, ← j, le-leb _ _ h, le-leb _ _ short, ← e, f, ← g, k) l

module _ (p : List ℕ) where
  pub fine_free : get_or p 0 0 ≡ 0 → (r : Bool) → r ≡ zeros p → r ≡ sound_record p
  unfolding sound_record tidy_record record_in record_fine
  fine_free e r f = simp (eq-eqb _ _ e) (f ∙ sym (same_or_false (zeros p)))

  module _ (e : get_or p 0 0 ≡ 0 → ⊥) where
    pub fine_live : (get_or p 0 0 ≡ 1 → ⊥) → false ≡ sound_record p
    unfolding sound_record tidy_record
    fine_live f = simp (ne_eqb _ _ e, ne_eqb _ _ f)

    module _ (f : get_or p 0 0 ≡ 1) (l : length p ≡ 280) (t : Bool) (g : t ≡ cond (within 0x40 0x7F (get_or p 1 0)) (cond (within 1 16 (get_or p 2 0)) (ltb (get_or p 3 0) 5) false) false) where
      -- fields in canonical form are as long as they say, so that their lengths alone decide
      fine_is : tidy_fields p ≡ true → record_fine (record_in p) ≡ t
      unfolding record_in record_fine value_fine part
      fine_is u =
          let b = id_fits p u in
          let c = value_fits p u in
          let n : length (take (8 + get_or p 2 0 - 8) (drop 8 p)) ≡ get_or p 2 0 = simp (length-take, length-drop) (omega arith) in
          let m : length (take (24 + get_or p 4 0 - 24) (drop 24 p)) ≡ get_or p 4 0 = simp (length-take, length-drop) (omega arith) in
          simp (ne_eqb _ _ e, n, m, le-leb _ _ c, same_or_false (ltb (get_or p 3 0) 5)) (sym g)

      sound_is : sound_record p ≡ cond (tidy_fields p) t false
      unfolding sound_record tidy_record
      sound_is = simp (ne_eqb _ _ e, eq-eqb _ _ f) (both (tidy_fields p) (λ u. simp (u, fine_is u)) (λ u. simp u))

      pub fine_fields : t ≡ true → (r : Bool) → r ≡ tidy_fields p → r ≡ sound_record p
      fine_fields u r v = v ∙ sym (sound_is ∙ rw u (same_or_false (tidy_fields p)))

      pub fine_not : t ≡ false → false ≡ sound_record p
      fine_not u = sym (sound_is ∙ rw u (false_both (tidy_fields p)))

pub fine_by : (a : List ℕ) → length a ≡ 17920 → (ps : List (List ℕ)) → ps ≡ first_chunks 280 (length a / 280) a → (r : Bool) → (IsTrue r ↔ EachIndex ps (λ k. IsTrue (sound_record (get_or ps k [])))) → r ≡ all (each sound_record 64 280 a)
fine_by a l ps e r h = all_by sound_record 64 280 a ps (rw l at e) r h

pub ruleset fine_laws = (tidy_long, tidy_spare, tidy_id, tidy_value, fine_free, fine_live, fine_fields, fine_not)
