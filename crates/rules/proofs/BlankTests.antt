-- Tests and what hangs on them.
-- Assumes nothing.
use mathlib.Core.Path.{◌≡◌, refl, sym}
use mathlib.Core.Bool.{Bool, true, false, cond, ◌&&◌, ◌||◌, false≢true, true≢false}
use mathlib.Core.List.{List, [], ◌∷◌}
use Prim.Native.Nat.{ℕ}
use lib.Dec.{eqb}
use Rattle.rules.specs.Bytes.{same}
use Rattle.rules.specs.Carried.{equal}

-- a function goes into both arms
pub ap_cond : {A B : Type 0} (f : A → B) (t : Bool) (a b : A) → f (cond t a b) ≡ cond t (f a) (f b)
ap_cond f true a b = refl
ap_cond f false a b = refl

-- what holds of both arms
pub two_cond : {A B : Type 0} (R : A → B → Type 0) (t : Bool) {a b : A} {a' b' : B} → R a a' → R b b' → R (cond t a b) (cond t a' b')
two_cond R true p q = p
two_cond R false p q = q

-- both tests pass
pub first : (a b : Bool) → cond a b false ≡ true → a ≡ true
first true b e = refl
first false b e = e

pub second : (a b : Bool) → cond a b false ≡ true → b ≡ true
second true b e = e
second false b e = absurd (false≢true e)

pub pass : {a b : Bool} → a ≡ true → b ≡ true → cond a b false ≡ true
pass {a = true} p q = q
pass {a = false} p q = p

-- the first test fails and the second passes
pub barred : (a b : Bool) → cond a false b ≡ true → a ≡ false
barred true b e = sym e
barred false b e = refl

pub unbarred : (a b : Bool) → cond a false b ≡ true → b ≡ true
unbarred true b e = absurd (false≢true e)
unbarred false b e = e

-- one of two tests passes, and the first fails
pub other : (a b : Bool) → cond a true b ≡ true → a ≡ false → b ≡ true
other true b e f = absurd (true≢false f)
other false b e f = e

-- neither test passes
pub neither : (a b : Bool) → cond a true b ≡ false → (a ≡ false) × (b ≡ false)
neither true b e = absurd (true≢false e)
neither false b e = (refl, e)

pub neither_left : (a b : Bool) → a || b ≡ false → a ≡ false
neither_left true b e = e
neither_left false b e = refl

pub neither_right : (a b : Bool) → a || b ≡ false → b ≡ false
neither_right true b e = absurd (true≢false e)
neither_right false b e = e

pub equal_same : (a b : List ℕ) → equal a b ≡ same a b
unfolding equal same
equal_same [] [] = refl
equal_same [] (y ∷ ys) = refl
equal_same (x ∷ xs) [] = refl
equal_same (x ∷ xs) (y ∷ ys) = go (eqb x y) (equal_same xs ys)
  where
    go : (t : Bool) {u v : Bool} → u ≡ v → t && u ≡ cond t v false
    go true e = e
    go false e = refl
