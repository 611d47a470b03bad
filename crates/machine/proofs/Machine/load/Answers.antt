-- `machine::load` meets its contract.
use Rattle.machine.proofs.CallLaws.{load_none, load_runs, load_faulty, load_started, accepted_size}
use borrow.Author.Rules.{rules}
use Rattle.machine.proofs.Machine.load.Goals as goal

pub returns-then-self-ne0 : goal.returns-then-self-ne0
returns-then-self-ne0 c = search (rules, load_none, load_runs, load_faulty, load_started, accepted_size)

pub returns-in-Ok : goal.returns-in-Ok
returns-in-Ok c = search (rules, load_none, load_runs, load_faulty, load_started, accepted_size)

pub returns-in-Err : goal.returns-in-Err
returns-in-Err c = search (rules, load_none, load_runs, load_faulty, load_started, accepted_size)
