-- The code's table of shapes, and its rule: every entry is what the rules say, by one computed test.
-- Assumes nothing.
use Prim.Native.Nat.{ℕ, ◌<◌}
use mathlib.Core.List.{List, [], ◌∷◌}
use mathlib.Core.Path.{◌≡◌}
use lib.Dec.{eqb, eqb→eq}
use lib.ListN.{get_or}
use Rattle.rules.specs.Bytes.{among, hex_to, hex}
use Rattle.rules.specs.Shape.{shapes, number_in, shape_of}
use Rattle.grammar.specs.Columns.{columns, slot_of, column_in, column_of}
use Rattle.grammar.proofs.Every.{every_at}

unfoldable pub table : List ℕ
table =
    0o000 ∷ 0o120 ∷ 0o010 ∷ 0o011 ∷ 0o010 ∷ 0o010 ∷ 0o010 ∷ 0o050 ∷ 0o322 ∷ 0o421 ∷ 0o220 ∷ 0o010 ∷ 0o010 ∷ 0o010 ∷ 0o060 ∷ 0o060 ∷
    0o020 ∷ 0o1120 ∷ 0o1220 ∷ 0o010 ∷ 0o641 ∷ 0o021 ∷ 0o014 ∷ 0o720 ∷ 0o1021 ∷ 0o1320 ∷ 0o1533 ∷ 0o022 ∷ 0o1421 ∷ 0o022 ∷ 0o020 ∷ 0o021 ∷ []

shape_right : (t : ℕ) → t < 256 → get_or table (column_of t) 0 ≡ shape_of t
unfolding hex hex_to columns slot_of column_in column_of table shapes number_in shape_of among
shape_right t h =
    eqb→eq (get_or table (column_of t) 0) (shape_of t)
    (every_at 256 (λ t. eqb (get_or table (column_of t) 0) (shape_of t)) tt t h)

-- the same, as the code reads it
pub shape_read : (t c : ℕ) → t < 256 → c ≡ column_of t → get_or table c 0 ≡ shape_of t
shape_read t c h e = rw e (shape_right t h)
