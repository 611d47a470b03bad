-- `machine::read` meets its contract.
use Rattle.machine.proofs.RunLaws.{read_none, read_done_lem}
use borrow.Author.Rules.{rules}
use Rattle.machine.proofs.Machine.read.Goals as goal

pub returns : goal.returns
returns c = search (rules, read_none, read_done_lem)
