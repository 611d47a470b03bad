-- Areas in canonical form with the same slots are the same array.
-- Assumes nothing.
use Prim.Native.Nat.{ℕ, ◌+◌, ◌≤◌}
use mathlib.Core.Bool.{true, false, cond}
use mathlib.Core.List.{List, [], ◌∷◌}
use mathlib.Core.Path.{◌≡◌, sym, ap, ◌∙◌}
use native.Mathlib.Omega.{arith}
use lib.ListN.{length, take, drop}
use lib.Seq.{drop-drop, length-take-le}
use lib.Dec.{leb, eqb}
use borrow.Author.Tests.{eqb-true, leb-true}
use Rattle.leaf.proofs.Cases.{both}
use Rattle.pour.specs.Pour.{blank, zeros}
use Rattle.pour.specs.Stride.{each, all}
use Rattle.pour.proofs.PadLaws.{blank_zeros, padded_take}
use Rattle.pour.proofs.StrideLaws.{each_same, all_first, all_rest}
use Rattle.slots.specs.Slots.{slot_in, slots, laid, tidy_slot, tidy_slots}

-- a slot in canonical form has just the bytes of what it means
laid_in : (p : List ℕ) → length p ≡ 260 → tidy_slot p ≡ true → laid (slot_in p) ≡ p
unfolding laid slot_in tidy_slot
laid_in [] l e = absurd (omega arith)
laid_in (x ∷ []) l e = absurd (omega arith)
laid_in (x ∷ y ∷ []) l e = absurd (omega arith)
laid_in (x ∷ y ∷ n ∷ []) l e = absurd (omega arith)
laid_in (x ∷ y ∷ n ∷ z ∷ r) l e =
    both (eqb x 0)
    (λ t. rw t (sym (blank_zeros (x ∷ y ∷ n ∷ z ∷ r) (rw t at e) ∙ ap (λ (m : ℕ). blank m) l)))
    (λ t.
    let rest = zeros (drop (4 + n) (x ∷ y ∷ n ∷ z ∷ r)) in
    let q : cond (eqb x 1) (cond (eqb z 0) (cond (leb n 255) rest false) false) false ≡ true = rw t at e in
    let q₁ = all_rest (eqb x 1) (cond (eqb z 0) (cond (leb n 255) rest false) false) q in
    let q₂ = all_rest (eqb z 0) (cond (leb n 255) rest false) q₁ in
    let one : x ≡ 1 = eqb-true x 1 (all_first (eqb x 1) (cond (eqb z 0) (cond (leb n 255) rest false) false) q) in
    let spare : z ≡ 0 = eqb-true z 0 (all_first (eqb z 0) (cond (leb n 255) rest false) q₁) in
    let short : n ≤ 255 = leb-true n 255 (all_first (leb n 255) rest q₂) in
    let tail : zeros (drop n r) ≡ true = ap zeros (drop-drop n 4 (x ∷ y ∷ n ∷ z ∷ r)) ∙ all_rest (leb n 255) rest q₂ in
    let m : length (take n r) ≡ n = length-take-le n r (omega arith) in
    rw (t, m, padded_take 256 n r (omega arith) (omega arith) tail, one, spare))

one_slot : (p q : List ℕ) → length p ≡ 260 → length q ≡ 260 → tidy_slot p ≡ true → tidy_slot q ≡ true → slot_in p ≡ slot_in q → p ≡ q
one_slot p q l m s t e = sym (laid_in p l s) ∙ ap laid e ∙ laid_in q m t

pub slots_same : (a b : List ℕ) → tidy_slots a ≡ true → tidy_slots b ≡ true → slots a ≡ slots b → a ≡ b
unfolding tidy_slots slots
slots_same a b s t e =
    each_same slot_in tidy_slot 260 one_slot 64 a b
    (eqb-true (length a) 16640 (all_first (eqb (length a) 16640) (all (each tidy_slot 64 260 a)) s))
    (eqb-true (length b) 16640 (all_first (eqb (length b) 16640) (all (each tidy_slot 64 260 b)) t))
    (all_rest (eqb (length a) 16640) (all (each tidy_slot 64 260 a)) s)
    (all_rest (eqb (length b) 16640) (all (each tidy_slot 64 260 b)) t)
    e
