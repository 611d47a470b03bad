-- `size_of` reads the sizes of the rules off its table.
use native.Mathlib.Omega.{arith}
use Rattle.rules.specs.Bytes.{hex_to, hex}
use Rattle.forms.proofs.SizeTable.{limits, size_read, size_none}
use Rattle.forms.proofs.size_of.Goals as goal

pub returns-else-tag-lt16 : goal.returns-else-tag-lt16
returns-else-tag-lt16 c = size_none _ (omega arith) (omega arith)

pub returns-then-tag-lt16 : goal.returns-then-tag-lt16
unfolding hex hex_to limits
returns-then-tag-lt16 c = size_read _ _ _ (omega arith) c.wide-t.ensures.0 c.wide.ensures.0
