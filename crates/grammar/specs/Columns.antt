-- Columns of tags: tags of which the rules say the same share a column of the code's tables. The tags of clause 13 go up to '16' and from '40'
-- to '4B', and with attributes 128 above.
use Rattle.std.specs.Prelude.{ℕ, ◌-◌, ◌%◌, cond, List, ◌++◌, get_or, ltb}
use Rattle.rules.specs.Bytes.{hex}

-- the column in each slot, and 64 more where it is that of the tag with attributes too
unfoldable pub columns : List ℕ
columns =
    hex 23 0x004102030405060748494a0b0c0d4e4f101112500f5310 ++
    hex 12 0x1415165718595a5b1c1d5e5f

unfoldable pub slot_of : ℕ → ℕ
slot_of t = cond (ltb t 0x17) t (cond (ltb t 0x40) 0 (cond (ltb t 0x4C) (t - 0x29) 0))

unfoldable pub column_in : ℕ → ℕ → ℕ
column_in t c = cond (ltb c 64) (cond (ltb t 0x80) c 0) (c - 64)

unfoldable pub column_of : ℕ → ℕ
column_of t = column_in t (get_or columns (slot_of (t % 128)) 0)
