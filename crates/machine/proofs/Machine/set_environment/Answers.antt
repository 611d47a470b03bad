-- `machine::set_environment` meets its contract.
use Rattle.machine.proofs.CallLaws.{set_none, set_runs, set_high, set_five, set_long, set_done}
use borrow.Author.Rules.{rules}
use Rattle.machine.proofs.Machine.set_environment.Goals as goal

pub returns-then-self-ne0 : goal.returns-then-self-ne0
returns-then-self-ne0 c = search (rules, set_none, set_runs, set_high, set_five, set_long, set_done)

pub returns-then-number-gt63 : goal.returns-then-number-gt63
returns-then-number-gt63 c = search (rules, set_none, set_runs, set_high, set_five, set_long, set_done)

pub returns-then-number-eq5 : goal.returns-then-number-eq5
returns-then-number-eq5 c = search (rules, set_none, set_runs, set_high, set_five, set_long, set_done)

pub returns-then-value-gt255 : goal.returns-then-value-gt255
returns-then-value-gt255 c = search (rules, set_none, set_runs, set_high, set_five, set_long, set_done)

pub returns : goal.returns
returns c = search (rules, set_none, set_runs, set_high, set_five, set_long, set_done)
