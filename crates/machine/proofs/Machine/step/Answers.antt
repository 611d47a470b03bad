-- `machine::step` meets its contract.
use Rattle.machine.proofs.CallLaws.{step_none, step_unready, step_short}
use Rattle.machine.proofs.RunLaws.{run_ready_at, step_run}
use borrow.Author.Rules.{rules}
use Rattle.machine.proofs.Machine.step.Goals as goal

pub returns-then-out-lt255 : goal.returns-then-out-lt255
returns-then-out-lt255 c = search (rules, step_none, step_unready, step_short, step_run)

pub returns-then-not-is_ready : goal.returns-then-not-is_ready
returns-then-not-is_ready c = search (rules, step_none, step_unready, step_short, step_run)

pub take_steps-course-requires : goal.take_steps-course-requires
take_steps-course-requires c = search (rules, run_ready_at)

pub returns : goal.returns
returns c = search (rules, step_none, step_unready, step_short, step_run)
