-- Lists of bytes.
use Rattle.std.specs.Prelude.{ℕ, zero, suc, ◌-◌, ◌/◌, ◌%◌, Bool, true, false, cond, List, [], ◌∷◌, take, drop, eqb}

-- the same length and the same bytes
unfoldable pub same : List ℕ → List ℕ → Bool
same [] [] = true
same [] (y ∷ ys) = false
same (x ∷ xs) [] = false
same (x ∷ xs) (y ∷ ys) = cond (eqb x y) (same xs ys) false

-- the bytes from a place up to another
unfoldable pub part : List ℕ → ℕ → ℕ → List ℕ
part s from to = take (to - from) (drop from s)

-- a number stands in a list
unfoldable pub among : List ℕ → ℕ → Bool
among [] n = false
among (x ∷ xs) n = cond (eqb n x) true (among xs n)

-- the n low bytes of a number, the high byte first: `hex 3 0x010a02` is 1, 10, 2
unfoldable pub hex_to : ℕ → ℕ → List ℕ → List ℕ
hex_to zero x rest = rest
hex_to (suc n) x rest = hex_to n (x / 256) (x % 256 ∷ rest)

unfoldable pub hex : ℕ → ℕ → List ℕ
hex n x = hex_to n x []
