-- No record stands twice, and the whole test of number 35 on the permanent area.
-- Assumes nothing.
use Prim.Native.Nat.{ℕ, zero, suc, ◌+◌, ◌-◌, ◌*◌, ◌≤◌, ◌<◌}
use mathlib.Core.Bool.{Bool, true, false, cond}
use mathlib.Core.List.{List, [], ◌∷◌}
use mathlib.Core.Path.{◌≡◌, refl, sym, ap, ◌∙◌}
use native.Mathlib.Numerals.{add-one}
use native.Mathlib.Omega.{arith}
use lib.ListN.{length, get_or, take, drop, length-drop, drop_of_length-le}
use lib.Seq.{drop-cons}
use lib.Dec.{ltb}
use borrow.Author.Tests.{eq-eqb, lt-ltb, le-ltb}
use Rattle.leaf.proofs.Cases.{both}
use Rattle.pour.specs.Stride.{each, all}
use Rattle.pour.proofs.StrideLaws.{false_both, piece_part}
use Rattle.rules.specs.Bytes.{part}
use Rattle.rules.specs.Card.{Record, none, stored}
use Rattle.rules.specs.Store.{is_record, record_from}
use Rattle.rules.specs.IsCard.{repeats, record_fine, records_fine}
use Rattle.records.specs.Records.{record_in, records, tidy_record, tidy_records, sound_record, sound_records, distinct}
use Rattle.records.proofs.RecordLaws.{sixty_four, none_at, stored_at}

module _ (id : List ℕ) (number type : ℕ) (bytes : List ℕ) where
  found : (k : ℕ) (rs : List Record) → repeats (stored id number type bytes) rs ≡ ltb (record_from k id number rs) (k + length rs)
  unfolding repeats record_from
  found k [] = sym (le-ltb k (k + 0) (omega arith))
  found k (r ∷ rs) =
      both (is_record id number r)
      (λ t. simp t (sym (lt-ltb k (k + suc (length rs)) (omega arith))))
      (λ t. let e : k + 1 + length rs ≡ k + suc (length rs) = omega arith in simp t (found (k + 1) rs ∙ ap (ltb (record_from (k + 1) id number rs)) e))

module _ (a : List ℕ) (k : ℕ) (h : k < 64) where
  abbrev later : List Record
  later = drop (k + 1) (records a)

  pub repeats_none : get_or a (k * 280) 0 ≡ 0 → false ≡ repeats (get_or (records a) k none) later
  unfolding repeats
  repeats_none e = rw (none_at a k h e)

  module _ (e : get_or a (k * 280) 0 ≡ 0 → ⊥) (n : ℕ) (i : n ≡ get_or a (k * 280 + 2) 0) (s : n < 256) (o : ℕ) (j : o ≡ record_from (k + 1) (take (k * 280 + 8 + n - (k * 280 + 8)) (drop (k * 280 + 8) a)) (get_or a (k * 280 + 1) 0) later) where
    same_id : take (k * 280 + 8 + n - (k * 280 + 8)) (drop (k * 280 + 8) a) ≡ part (take 280 (drop (k * 280) a)) 8 (8 + get_or a (k * 280 + 2) 0)
    unfolding part
    same_id =
        let m : k * 280 + 8 + n - (k * 280 + 8) ≡ n = omega arith in
        let q : 8 + n - 8 ≡ n = omega arith in
        rw (← i, m, q, piece_part 280 (k * 280) a 8 n (omega arith))

    repeats_is : repeats (get_or (records a) k none) later ≡ ltb o 64
    repeats_is =
        let l : length later ≡ 64 - (k + 1) = length-drop (k + 1) (records a) ∙ ap (λ (x : ℕ). x - (k + 1)) (sixty_four a) in
        let q : k + 1 + length later ≡ 64 = omega arith in
        rw (stored_at a k h e, ← same_id) (found (take (k * 280 + 8 + n - (k * 280 + 8)) (drop (k * 280 + 8) a)) (get_or a (k * 280 + 1) 0) _ _ (k + 1) later ∙ rw (← j, q))

    pub repeats_true : o < 64 → true ≡ repeats (get_or (records a) k none) later
    repeats_true m = sym (repeats_is ∙ lt-ltb _ _ m)

    pub repeats_false : 64 ≤ o → false ≡ repeats (get_or (records a) k none) later
    repeats_false m = sym (repeats_is ∙ le-ltb _ _ m)

-- `w` is what all records come to
module _ (a : List ℕ) (k : ℕ) (w : Bool) (inv : distinct (drop k (records a)) ≡ w) where
  pub distinct_done : 64 ≤ k → true ≡ w
  unfolding distinct
  distinct_done h = let l = sixty_four a in sym (ap distinct (drop_of_length-le (records a) {i = k} (omega arith))) ∙ inv

  module _ (h : k < 64) (r : Bool) (e : r ≡ repeats (get_or (records a) k none) (drop (k + 1) (records a))) where
    step : distinct (drop k (records a)) ≡ cond r false (distinct (drop (k + 1) (records a)))
    unfolding distinct
    step =
        let l : length (records a) ≡ 64 = sixty_four a in
        let d : drop k (records a) ≡ get_or (records a) k none ∷ drop (k + 1) (records a) = rw (add-one k) (drop-cons (records a) k none (omega arith)) in
        rw (d, e)

    pub distinct_less : r ≡ true → false ≡ w
    distinct_less f = sym (rw f at step) ∙ inv

    pub distinct_more : r ≡ false → distinct (drop (k + 1) (records a)) ≡ w
    distinct_more f = sym (rw f at step) ∙ inv

-- in canonical form, fine and distinct, record by record or one after the other
mixed : (t tidy f fine rep sound dist : Bool) → cond tidy fine false ≡ cond sound dist false → cond (cond t tidy false) (cond f (cond rep false fine) false) false ≡ cond (cond (cond t f false) sound false) (cond rep false dist) false
mixed true tidy true fine true sound dist e = false_both tidy ∙ sym (false_both sound)
mixed true tidy true fine false sound dist e = e
mixed true tidy false fine rep sound dist e = false_both tidy
mixed false tidy f fine rep sound dist e = refl

each_sound : (n : ℕ) (a : List ℕ) → cond (all (each tidy_record n 280 a)) (records_fine (each record_in n 280 a)) false ≡ cond (all (each sound_record n 280 a)) (distinct (each record_in n 280 a)) false
unfolding each all records_fine sound_record distinct
each_sound zero a = refl
each_sound (suc n) a =
    let r = drop 280 a in
    mixed (tidy_record (take 280 a)) (all (each tidy_record n 280 r)) (record_fine (record_in (take 280 a))) (records_fine (each record_in n 280 r)) (repeats (record_in (take 280 a)) (each record_in n 280 r)) (all (each sound_record n 280 r)) (distinct (each record_in n 280 r))
    (each_sound n r)

module _ (a : List ℕ) (l : length a ≡ 17920) (t : Bool) (e : t ≡ all (each sound_record 64 280 a)) where
  sound_is : sound_records a ≡ cond t (distinct (records a)) false
  unfolding sound_records tidy_records records
  sound_is = simp (eq-eqb _ _ l) (each_sound 64 a ∙ rw e)

  pub sound_rest_lem : t ≡ true → (r : Bool) → r ≡ distinct (records a) → r ≡ sound_records a
  sound_rest_lem f r g = g ∙ sym (rw f at sound_is)

  pub sound_not : t ≡ false → false ≡ sound_records a
  sound_not f = sym (rw f at sound_is)

pub ruleset repeat_laws = (repeats_none, repeats_true, repeats_false, distinct_done, distinct_less, distinct_more, sound_rest_lem, sound_not)
