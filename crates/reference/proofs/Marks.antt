-- The ways through `mark`, in the shape of what its proof needs, and where the mark stands.
-- Assumes nothing.
use Prim.Native.Nat.{ℕ, zero, suc, ◌+◌, ◌≤◌, ◌<◌}
use mathlib.Core.List.{List}
use mathlib.Core.Path.{◌≡◌, refl, ap, sym, subst, ◌∙◌}
use native.Mathlib.Omega.{arith}
use lib.ListN.{length, get_or, take}
use lib.Seq.{length-take-le}
use lib.Dec.{ltb, eqb}
use borrow.Author.Tests.{eq-eqb, ne_eqb}
use Rattle.rules.specs.Reference.{mark_in, mark}
use Rattle.leaf.proofs.Cases.{both, tests}
use Rattle.std.specs.Prelude.{Option, Some, None, MatchOption, EachIndex, ◌≢◌}

module _ (r : List ℕ) where
  mark_in_none : (n : ℕ) → ((k : ℕ) → k < n → get_or r k 0 ≡ 0x23 → ⊥) → mark_in n r ≡ None
  unfolding mark_in
  mark_in_none zero h = refl
  mark_in_none (suc n) h = simp (ne_eqb _ _ (h n (omega arith))) (mark_in_none n (λ k l. h k (omega arith)))

  mark_in_last : (n i : ℕ) → i < n → get_or r i 0 ≡ 0x23 → ((k : ℕ) → i < k → k < n → get_or r k 0 ≡ 0x23 → ⊥) → mark_in n r ≡ Some i
  unfolding mark_in
  mark_in_last zero i l e h = absurd (omega arith)
  mark_in_last (suc n) i l e h =
      both (ltb i n) (λ t. simp (ne_eqb _ _ (h n (omega tests) (omega arith))) (mark_in_last n i (omega tests) e (λ k a b. h k a (omega arith))))
      (λ t. let x : i ≡ n = omega tests in simp (eq-eqb _ _ (rw x at e)) (ap Some (sym x)))

  -- `m` is what a search from the end found
  pub mark_by : (m : Option ℕ) → MatchOption m (EachIndex r (λ k. get_or r k 0 ≢ 0x23)) (λ i. (i < length r) × (get_or r i 0 ≡ 0x23) × ((k : ℕ) → i + 1 ≤ k → k < length r → get_or r k 0 ≢ 0x23)) → m ≡ mark r
  unfolding mark
  mark_by None h = sym (mark_in_none (length r) (λ k l. h k l))
  mark_by (Some i) h = sym (mark_in_last (length r) i h.0 h.1 (λ k a b. h.2 k (omega arith) b))

abbrev Below : ℕ → Option ℕ → Type 0
Below n (Some m) = m < n
Below n None = Unit {0}

mark_below : (n m : ℕ) (r : List ℕ) → n ≤ m → Below m (mark_in n r)
unfolding mark_in
mark_below zero m r h = tt
mark_below (suc n) m r h = both (eqb (get_or r n 0) 0x23) (λ t. simp t (omega arith)) (λ t. simp t (mark_below n m r (omega arith)))

pub mark_after : (r : List ℕ) {n : ℕ} → mark r ≡ Some n → n < length r
unfolding mark
mark_after r e = subst (Below (length r)) e (mark_below (length r) (length r) r (omega arith))

pub mark_counts : (r : List ℕ) (m : Option ℕ) → m ≡ mark r → (n : ℕ) → m ≡ Some n → n ≡ length (take n r)
mark_counts r m is n x = let b = mark_after r (sym is ∙ x) in sym (length-take-le n r (omega arith))

module _ (r : List ℕ) (m : Option ℕ) (is : m ≡ mark r) (n : ℕ) (x : m ≡ Some n) where
  pub mark_left : n + 1 ≤ length r
  mark_left = let b = mark_after r (sym is ∙ x) in omega arith

  pub mark_fits : (k : ℕ) → length r < k → n + 1 < k
  mark_fits k h = let b = mark_left in omega arith

pub ruleset place_laws = (mark_counts, mark_left, mark_fits)
