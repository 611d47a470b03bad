-- `machine::run` meets its contract.
use Rattle.machine.proofs.RunLaws.{run_short, run_none, run_unready, run_done_lem, run_ready_at}
use borrow.Author.Rules.{rules}
use Rattle.machine.proofs.Machine.run.Goals as goal

pub returns-then-out-lt255 : goal.returns-then-out-lt255
returns-then-out-lt255 c = search (rules, run_short, run_none, run_unready, run_done_lem, run_ready_at)

pub returns-then-not-is_ready : goal.returns-then-not-is_ready
returns-then-not-is_ready c = search (rules, run_short, run_none, run_unready, run_done_lem, run_ready_at)

pub take_steps-course-requires : goal.take_steps-course-requires
take_steps-course-requires c = search (rules, run_short, run_none, run_unready, run_done_lem, run_ready_at)

pub returns : goal.returns
returns c = search (rules, run_short, run_none, run_unready, run_done_lem, run_ready_at)
