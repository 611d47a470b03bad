-- A field of w bytes in canonical form: some bytes, and zeros after them.
-- Assumes nothing.
use Prim.Native.Nat.{ℕ, zero, suc, ◌-◌, ◌≤◌}
use mathlib.Core.Bool.{Bool, true}
use mathlib.Core.List.{List, [], ◌∷◌}
use mathlib.Core.Path.{◌≡◌, refl, ap, ap₂, ◌∙◌}
use native.Mathlib.Omega.{arith}
use lib.ListN.{length, get_or, get_or-replicate, take, drop, length-append, length-drop, length-replicate, take-append-drop}
use lib.Seq.{take_at, drop_at, length-take-le}
use lib.Dec.{eqb}
use borrow.Author.Tests.{eqb-true, eq-eqb}
use Rattle.std.specs.Prelude.{IsTrue, ◌↔◌, EachIndex}
use Rattle.pour.specs.Pour.{blank, padded, zeros}
use Rattle.pour.proofs.StrideLaws.{all_first, all_rest, told}

module _ (w : ℕ) (b : List ℕ) where
  pub length_padded : length b ≤ w → length (padded w b) ≡ w
  unfolding padded
  length_padded h = simp (length-append, length-replicate) (omega arith)

  pub take_padded : take (length b) (padded w b) ≡ b
  unfolding padded
  take_padded = take_at b (blank (w - length b)) (length b) refl

  pub drop_padded : drop (length b) (padded w b) ≡ blank (w - length b)
  unfolding padded
  drop_padded = drop_at b (blank (w - length b)) (length b) refl

pub zeros_blank : (n : ℕ) → zeros (blank n) ≡ true
unfolding zeros
zeros_blank zero = refl
zeros_blank (suc n) = zeros_blank n

pub blank_zeros : (s : List ℕ) → zeros s ≡ true → s ≡ blank (length s)
unfolding zeros
blank_zeros [] e = refl
blank_zeros (x ∷ xs) e = ap₂ ◌∷◌ (eqb-true x 0 (all_first (eqb x 0) (zeros xs) e)) (blank_zeros xs (all_rest (eqb x 0) (zeros xs) e))

pub padded_take : (w n : ℕ) (q : List ℕ) → length q ≡ w → n ≤ w → zeros (drop n q) ≡ true → padded w (take n q) ≡ q
unfolding padded
padded_take w n q l h e =
    let m : length (take n q) ≡ n = length-take-le n q (omega arith) in
    let d : drop n q ≡ blank (w - n) = blank_zeros (drop n q) e ∙ ap (λ (k : ℕ). blank k) (length-drop n q ∙ ap (λ (k : ℕ). k - n) l) in
    rw (m, ← d) (take-append-drop n q)

zeros_each : (s : List ℕ) → EachIndex s (λ k. get_or s k 0 ≡ 0) → zeros s ≡ true
unfolding zeros
zeros_each [] h = refl
zeros_each (x ∷ xs) h = rw (eq-eqb x 0 (h 0 (omega arith)), zeros_each xs (λ k l. h (suc k) (omega arith)))

zeros_at : (s : List ℕ) → zeros s ≡ true → EachIndex s (λ k. get_or s k 0 ≡ 0)
zeros_at s e k l = ap (λ (t : List ℕ). get_or t k 0) (blank_zeros s e) ∙ get_or-replicate (length s) k 0 0 l

-- an answer that is yes where each byte is zero
pub zeros_by : (s : List ℕ) (r : Bool) → (IsTrue r ↔ EachIndex s (λ k. get_or s k 0 ≡ 0)) → r ≡ zeros s
zeros_by s r h = told r (zeros s) (λ e. zeros_each s (h.0 e)) (λ e. h.1 (zeros_at s e))
