-- An area of 64 slots in one array: slot k is the 260 bytes at 260 * k: live, type, length, 0, then 256 bytes, the value and zeros.
use Rattle.std.specs.Prelude.{ℕ, zero, suc, ◌+◌, ◌*◌, Bool, true, false, cond, List, ◌∷◌, length, get_or, take, drop, leb, eqb}
use Rattle.pour.specs.Pour.{blank, poured, padded, zeros}
use Rattle.pour.specs.Stride.{each, all}
use Rattle.rules.specs.Bytes.{among}
use Rattle.rules.specs.Card.{Slot, free, held}
use Rattle.rules.specs.Store.{longest}
use Rattle.rules.specs.IsCard.{slot_fine, slots_fine}

-- what the bytes of a slot mean
unfoldable pub slot_in : List ℕ → Slot
slot_in p = cond (eqb (get_or p 0 0) 0) free (held (get_or p 1 0) (take (get_or p 2 0) (drop 4 p)))

unfoldable pub slots : List ℕ → List Slot
slots a = each slot_in 64 260 a

-- the bytes that a slot has
unfoldable pub laid : Slot → List ℕ
laid free = blank 260
laid (held type bytes) = 1 ∷ type ∷ length bytes ∷ 0 ∷ padded 256 bytes

-- bytes that mean nothing are zero: all of a free slot, and those past a value
unfoldable pub tidy_slot : List ℕ → Bool
tidy_slot p =
    cond (eqb (get_or p 0 0) 0) (zeros p)
    (cond (eqb (get_or p 0 0) 1) (cond (eqb (get_or p 3 0) 0) (cond (leb (get_or p 2 0) longest) (zeros (drop (4 + get_or p 2 0) p)) false) false) false)

-- an area in canonical form
unfoldable pub tidy_slots : List ℕ → Bool
tidy_slots a = cond (eqb (length a) 16640) (all (each tidy_slot 64 260 a)) false

-- what number 35 asks of a slot, and of an area
unfoldable pub sound_slot : List ℕ → Bool
sound_slot p = cond (tidy_slot p) (slot_fine (slot_in p)) false

unfoldable pub sound_slots : List ℕ → Bool
sound_slots a = cond (tidy_slots a) (slots_fine (slots a)) false

-- a slot holds a value
unfoldable pub is_held : Slot → Bool
is_held free = false
is_held (held type bytes) = true

-- slot k becomes x
unfoldable pub with_slot : List ℕ → ℕ → Slot → List ℕ
with_slot a k x = poured a (k * 260) (laid x)

-- the n slots from k on whose variables a list has stay; the others are wiped
unfoldable pub sifted : List ℕ → ℕ → ℕ → List ℕ → List ℕ
sifted numbers k zero a = a
sifted numbers k (suc n) a = sifted numbers (k + 1) n (cond (among numbers (0x80 + k)) a (with_slot a k free))
