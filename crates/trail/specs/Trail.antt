-- The history in one array of 1058 bytes: the count of its entries, the pointer, then 16 entries of 66 bytes, each a length,
-- as many bytes and zeros; the oldest first.
use Rattle.std.specs.Prelude.{ℕ, ◌+◌, ◌*◌, Bool, false, cond, List, ◌∷◌, ◌++◌, length, get_or, take, drop, ltb, leb, eqb}
use Rattle.pour.specs.Pour.{padded, zeros}
use Rattle.pour.specs.Stride.{each, all}
use Rattle.rules.specs.Reference.{mark}
use Rattle.rules.specs.Card.{History}
use Rattle.rules.specs.Trail.{depth}
use Rattle.rules.specs.IsCard.{entry_by, history_fine}
use Rattle.word.specs.Word.{word_in, laid_word, tidy_word}

unfoldable pub history_of : List ℕ → History
history_of a = record { entries = take (get_or a 0 0) (each word_in 16 66 (drop 2 a)); pointer = get_or a 1 0 }

-- the entries that can still be gone back to
unfoldable pub reach : List ℕ → List (List ℕ)
reach a = take (history_of a).pointer (history_of a).entries

-- bytes that mean nothing are zero: those past an entry, and the unused entries
unfoldable pub tidy_trail : List ℕ → Bool
tidy_trail a =
    cond (eqb (length a) 1058)
    (cond (leb (get_or a 0 0) depth) (cond (zeros (drop (get_or a 0 0 * 66) (drop 2 a))) (all (each tidy_word (get_or a 0 0) 66 (drop 2 a))) false) false) false

-- n entries from their bytes, with the pointer at the top
unfoldable pub laid_trail : ℕ → List ℕ → List ℕ
laid_trail n body = n ∷ n ∷ padded 1056 body

-- the first n entries and one more; of 16 the oldest goes
unfoldable pub pushed_trail : ℕ → List ℕ → List ℕ → List ℕ
pushed_trail n a r =
    cond (ltb n depth) (laid_trail (n + 1) (take (n * 66) (drop 2 a) ++ laid_word 66 r)) (laid_trail 16 (drop 66 (drop 2 a) ++ laid_word 66 r))

-- what number 35 asks of an entry, and of the history
unfoldable pub sound_entry : List ℕ → Bool
sound_entry p = cond (tidy_word p) (entry_by (length (word_in p)) (mark (word_in p))) false

unfoldable pub sound_trail : List ℕ → Bool
sound_trail a = cond (tidy_trail a) (history_fine (history_of a)) false
