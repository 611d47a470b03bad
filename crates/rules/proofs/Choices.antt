-- Choices by a test: what holds of both arms holds of the choice. Assumes nothing.
use mathlib.Core.Path.{◌≡◌, refl}
use mathlib.Core.Bool.{Bool, true, false, cond}

-- a test is true or false
pub both : {G : Type 0} (t : Bool) → (t ≡ true → G) → (t ≡ false → G) → G
both true f g = f refl
both false f g = g refl

-- a property of either arm
pub either : {A : Type 0} (P : A → Type 0) (t : Bool) {a b : A} → (t ≡ true → P a) → (t ≡ false → P b) → P (cond t a b)
either P true f g = f refl
either P false f g = g refl

-- what is not true is false
pub not_so : (t : Bool) → (t ≡ true → ⊥) → t ≡ false
not_so true f = absurd (f refl)
not_so false f = refl
