-- A table's rule from one computed test: what passes at every number below n holds at each of them.
-- Assumes nothing.
use Prim.Native.Nat.{ℕ, zero, suc, ◌<◌}
use mathlib.Core.Bool.{Bool, true, false, cond}
use mathlib.Core.Path.{◌≡◌, refl, sym, subst}
use native.Mathlib.Omega.{arith}
use native.Mathlib.Nat.{not-suc-le-zero}
use lib.Dec.{T, eqb}
use borrow.Author.Tests.{eqb-true, eqb-false}
use Rattle.leaf.proofs.Cases.{both}

abbrev pub every : ℕ → (ℕ → Bool) → Bool
every zero f = true
every (suc n) f = cond (f n) (every n f) false

first : (a b : Bool) → T (cond a b false) → T a
first true b t = tt
first false b t = t

second : (a b : Bool) → T (cond a b false) → T b
second true b t = t
second false b t = absurd t

pub every_at : (n : ℕ) (f : ℕ → Bool) → T (every n f) → (k : ℕ) → k < n → T (f k)
every_at zero f t k h = absurd (not-suc-le-zero h)
every_at (suc n) f t k h =
    both (eqb k n)
    (λ e. subst (λ (m : ℕ). T (f m)) (sym (eqb-true k n e)) (first (f n) (every n f) t))
    (λ e. every_at n f (second (f n) (every n f) t) k (let d = eqb-false k n e in omega arith))

-- over two numbers
pub every_in : (n m : ℕ) (f : ℕ → ℕ → Bool) → T (every n (λ i. every m (f i))) → (i k : ℕ) → i < n → k < m → T (f i k)
every_in n m f t i k h g = every_at m (f i) (every_at n (λ j. every m (f j)) t i h) k g

-- two tests give the same answer
unfoldable pub agree : Bool → Bool → Bool
agree true b = b
agree false b = cond b false true

pub agree_eq : (a b : Bool) → T (agree a b) → a ≡ b
unfolding agree
agree_eq true true t = refl
agree_eq false false t = refl
agree_eq true false t = absurd t
agree_eq false true t = absurd t
