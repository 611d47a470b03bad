-- `cell_of` reads the cell of the rules off its tables.
use native.Mathlib.Omega.{arith}
use Rattle.rules.specs.Bytes.{hex_to, hex}
use Rattle.grammar.proofs.Tables.{cells0, cells4, cells8, cells12, cell_none, cell_0, cell_4, cell_8, cell_12}
use Rattle.grammar.proofs.cell_of.Goals as goal

pub returns-then-kind-ge-KINDS : goal.returns-then-kind-ge-KINDS
returns-then-kind-ge-KINDS c = cell_none _ _ (omega arith)

pub returns-then-kind-lt4 : goal.returns-then-kind-lt4
unfolding hex hex_to cells0
returns-then-kind-lt4 c = cell_0 _ _ _ (omega arith) c.column_of.ensures.value (omega arith)

pub returns-then-kind-lt8 : goal.returns-then-kind-lt8
unfolding hex hex_to cells4
returns-then-kind-lt8 c = cell_4 _ _ _ (omega arith) c.column_of.ensures.value (omega arith) (omega arith)

pub returns-then-kind-lt12 : goal.returns-then-kind-lt12
unfolding hex hex_to cells8
returns-then-kind-lt12 c = cell_8 _ _ _ (omega arith) c.column_of.ensures.value (omega arith) (omega arith)

pub returns-else-kind-lt12 : goal.returns-else-kind-lt12
unfolding hex hex_to cells12
returns-else-kind-lt12 c = cell_12 _ _ _ (omega arith) c.column_of.ensures.value (omega arith) (omega arith)
