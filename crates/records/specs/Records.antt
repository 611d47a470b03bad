-- The permanent area of 64 records in one array: record k is the 280 bytes at 280 * k: live, number, ID length, type, length, three zeros,
-- then 16 bytes, the Service ID and zeros, then 256 bytes, the value and zeros.
use Rattle.std.specs.Prelude.{◌≡◌, ◌<◌, Option, None, Some, ℕ, ◌+◌, ◌*◌, Bool, true, false, cond, List, [], ◌∷◌, ◌++◌, length, get_or, leb, eqb}
use Rattle.pour.specs.Pour.{blank, poured, padded, zeros}
use Rattle.pour.specs.Stride.{each, all}
use Rattle.rules.specs.Bytes.{part}
use Rattle.rules.specs.Card.{Record, none, stored}
use Rattle.rules.specs.Store.{longest}
use Rattle.rules.specs.IsCard.{record_fine, records_fine, repeats}

-- a place that was looked for, counted as the rules do; 64, past the last, where there is none
abbrev pub IsPlace : Option ℕ → ℕ → Type 0
IsPlace None place = place ≡ 64
IsPlace (Some k) place = (k ≡ place) × (k < 64)

-- what the bytes of a record mean
unfoldable pub record_in : List ℕ → Record
record_in p =
    cond (eqb (get_or p 0 0) 0) none
    (stored (part p 8 (8 + get_or p 2 0)) (get_or p 1 0) (get_or p 3 0) (part p 24 (24 + get_or p 4 0)))

unfoldable pub records : List ℕ → List Record
records a = each record_in 64 280 a

-- the bytes that a record has
unfoldable pub laid : Record → List ℕ
laid none = blank 280
laid (stored id n type bytes) = 1 ∷ n ∷ length id ∷ type ∷ length bytes ∷ 0 ∷ 0 ∷ 0 ∷ (padded 16 id ++ padded 256 bytes)

-- bytes that mean nothing are zero: all of a free record, and those past an ID and past a value
unfoldable pub tidy_fields : List ℕ → Bool
tidy_fields p =
    cond (leb (get_or p 2 0) 16)
    (cond (leb (get_or p 4 0) longest)
    (cond (zeros (part p 5 8)) (cond (zeros (part p (8 + get_or p 2 0) 24)) (zeros (part p (24 + get_or p 4 0) 280)) false) false) false) false

unfoldable pub tidy_record : List ℕ → Bool
tidy_record p = cond (eqb (get_or p 0 0) 0) (zeros p) (cond (eqb (get_or p 0 0) 1) (tidy_fields p) false)

-- the permanent area in canonical form
unfoldable pub tidy_records : List ℕ → Bool
tidy_records a = cond (eqb (length a) 17920) (all (each tidy_record 64 280 a)) false

-- what number 35 asks of a record, and of the area
unfoldable pub sound_record : List ℕ → Bool
sound_record p = cond (tidy_record p) (record_fine (record_in p)) false

unfoldable pub sound_records : List ℕ → Bool
sound_records a = cond (tidy_records a) (records_fine (records a)) false

-- no record stands twice
unfoldable pub distinct : List Record → Bool
distinct [] = true
distinct (r ∷ rs) = cond (repeats r rs) false (distinct rs)

-- record k becomes x
unfoldable pub with_record : List ℕ → ℕ → Record → List ℕ
with_record a k x = poured a (k * 280) (laid x)
