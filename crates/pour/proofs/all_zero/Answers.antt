-- `all_zero` meets its contract.
use Rattle.std.proofs.Common.{rules}
use Rattle.pour.proofs.PadLaws.{zeros_by}
use Rattle.pour.proofs.all_zero.Goals as goal

pub returns : goal.returns
returns c = zeros_by _ _ (search rules)
