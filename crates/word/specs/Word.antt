-- Short texts in arrays: the text's length, its bytes, and zeros; and such a text behind a mark, 1 where there is one and 0 where there is none.
use Rattle.std.specs.Prelude.{ℕ, ◌+◌, ◌-◌, Bool, true, false, cond, List, ◌∷◌, length, get_or, take, drop, ltb, eqb}
use Rattle.pour.specs.Pour.{padded, zeros}
use Rattle.rules.specs.Card.{Guard, unlocked, locked, Hand, empty, by_code}

-- the text of some bytes
unfoldable pub word_in : List ℕ → List ℕ
word_in p = take (get_or p 0 0) (drop 1 p)

-- the n bytes that a text has
unfoldable pub laid_word : ℕ → List ℕ → List ℕ
laid_word n w = length w ∷ padded (n - 1) w

-- the text fits, and zeros follow it
unfoldable pub tidy_word : List ℕ → Bool
tidy_word p = cond (ltb (get_or p 0 0) (length p)) (zeros (drop (1 + get_or p 0 0) p)) false

-- a text behind a mark
unfoldable pub is_marked : List ℕ → Bool
is_marked p = cond (eqb (get_or p 0 0) 0) false true

unfoldable pub laid_marked : ℕ → List ℕ → List ℕ
laid_marked n w = 1 ∷ laid_word (n - 1) w

unfoldable pub tidy_marked : List ℕ → Bool
tidy_marked p = cond (eqb (get_or p 0 0) 0) (zeros p) (cond (eqb (get_or p 0 0) 1) (tidy_word (drop 1 p)) false)

-- the guard, 18 bytes
unfoldable pub guard_of : List ℕ → Guard
guard_of p = cond (is_marked p) (locked (word_in (drop 1 p))) unlocked

-- the command in hand, 257 bytes; the mark says that a byte code sent it
unfoldable pub hand_of : List ℕ → Hand
hand_of p = cond (is_marked p) (by_code (word_in (drop 1 p))) empty

-- canonical form of the guard, the command in hand and the reference of the page wanted: their lengths, and zeros past what they hold
unfoldable pub tidy_guard : List ℕ → Bool
tidy_guard p = cond (eqb (length p) 18) (tidy_marked p) false

unfoldable pub tidy_hand : List ℕ → Bool
tidy_hand p = cond (eqb (length p) 257) (tidy_marked p) false

unfoldable pub tidy_wanted : List ℕ → Bool
tidy_wanted p = cond (eqb (length p) 66) (tidy_word p) false
