-- Words in a line, and the number that a word says in decimal.
use Rattle.std.specs.Prelude.{ℕ, ◌+◌, ◌-◌, ◌*◌, cond, List, [], ◌∷◌, length, drop, ltb, eqb, ◌==◌, Option, Some, None, option_map, position}

-- the place of the first b from a place on
abbrev pub place_of : ℕ → ℕ → List ℕ → Option ℕ
place_of b from line = option_map (λ n. from + n) (position (λ x. x == b) (drop from line))

-- n with the digits that follow; no number above 4,294,967,295
abbrev pub count_from : ℕ → List ℕ → Option ℕ
count_from n [] = Some n
count_from n (b ∷ bs) =
    cond (ltb b 48) None
    (cond (ltb 57 b) None
    (cond (ltb 4294967295 (n * 10 + (b - 48))) None
    (count_from (n * 10 + (b - 48)) bs)))

abbrev pub count_of : List ℕ → Option ℕ
count_of word = cond (eqb (length word) 0) None (count_from 0 word)
