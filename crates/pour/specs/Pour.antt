-- What the copies leave.
use Rattle.std.specs.Prelude.{ℕ, ◌-◌, Bool, true, false, cond, List, [], ◌∷◌, ◌++◌, length, take, drop, replicate, eqb}

-- bytes from a place on, the others as they were
unfoldable pub poured : List ℕ → ℕ → List ℕ → List ℕ
poured a at b = take at a ++ (b ++ drop (length b) (drop at a))

-- n zeros
abbrev pub blank : ℕ → List ℕ
blank n = replicate n 0

-- bytes, and zeros after them, n in all
unfoldable pub padded : ℕ → List ℕ → List ℕ
padded n b = b ++ blank (n - length b)

-- what lay w places further on; the last w as they were
unfoldable pub slid : ℕ → List ℕ → List ℕ
slid w a = drop w a ++ drop (length a - w) a

unfoldable pub zeros : List ℕ → Bool
zeros [] = true
zeros (x ∷ xs) = cond (eqb x 0) (zeros xs) false
