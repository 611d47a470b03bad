-- `machine::end` meets its contract.
use Rattle.machine.proofs.CallLaws.{end_none, end_rests, end_done}
use borrow.Author.Rules.{rules}
use Rattle.machine.proofs.Machine.end.Goals as goal

pub returns-then-self-eq0 : goal.returns-then-self-eq0
returns-then-self-eq0 c = search (rules, end_none, end_rests, end_done)

pub returns : goal.returns
returns c = search (rules, end_none, end_rests, end_done)
