-- `page::unlock` meets its contract.
use mathlib.Core.Path.{sym}
use native.Mathlib.Omega.{arith}
use Rattle.page.proofs.Parts.{page_part_held}
use Rattle.page.proofs.unlock.Goals as goal

pub overflow_add-result : goal.overflow_add-result
overflow_add-result c = let h = page_part_held _ _ (sym c.in_ok-span.ensures) in omega arith
