-- `shape_of` reads the shape of the rules off its table.
use native.Mathlib.Omega.{arith}
use Rattle.shape.proofs.ShapeTable.{table, shape_read}
use Rattle.shape.proofs.shape_of.Goals as goal

pub returns : goal.returns
unfolding table
returns c = shape_read _ _ (omega arith) c.column_of-c.ensures.value
