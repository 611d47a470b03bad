-- `machine::show_none` meets its contract.
use Rattle.machine.proofs.RunLaws.{none_shown}
use borrow.Author.Rules.{rules}
use Rattle.machine.proofs.show_none.Goals as goal

pub returns : goal.returns
returns c = search (rules, none_shown)
