-- A list read at a fixed stride: its first n pieces of w bytes.
use Rattle.std.specs.Prelude.{ℕ, zero, suc, Bool, true, false, cond, List, [], ◌∷◌, take, drop}

-- what each piece means
unfoldable pub each : {A : Type 0} → (List ℕ → A) → ℕ → ℕ → List ℕ → List A
each f zero w a = []
each f (suc n) w a = f (take w a) ∷ each f n w (drop w a)

unfoldable pub all : List Bool → Bool
all [] = true
all (x ∷ xs) = cond x (all xs) false
