-- `running::take_steps` meets its contract.
use native.Mathlib.Omega.{arith}
use mathlib.Core.Path.{ap}
use lib.ListN.{length}
use Rattle.running.proofs.RunLaws.{run_laws, ready_accepted, on_same, on_room, on_ready, on_steps, sent_counts, end_counts, run_out}
use borrow.Author.Rules.{rules}
use Rattle.running.proofs.take_steps.Goals as goal

pub loop-count-init : goal.loop-count-init
loop-count-init c = search (rules, run_laws)

pub overflow_add-count : goal.overflow_add-count
overflow_add-count c = search (rules, run_laws)

pub take_step-requires : goal.take_step-requires
take_step-requires c = (search (rules, ready_accepted), search rules)

pub loop-count-smaller : goal.loop-count-smaller
loop-count-smaller c = omega arith

pub loop-count-preserved : goal.loop-count-preserved
loop-count-preserved c = (
  omega arith,
  on_same _ c.loop-count.count _ _ _ _ _ _ _ _ _ _ _ _ c.loop-count.invariant.4 c.loop-count.invariant.3 c.loop-count-test.true _ _ _ _ _ _ _ _ _ c.take_step.ensures _ c.loop-count.invariant.1 _ _ c.in-On.is,
  on_room _ c.loop-count.count _ _ _ _ _ _ _ _ _ _ _ _ c.loop-count.invariant.4 c.loop-count.invariant.3 c.loop-count-test.true _ _ _ _ _ _ _ _ _ c.take_step.ensures _ c.loop-count.invariant.1 _ _ c.in-On.is c.loop-count.invariant.2,
  on_ready _ c.loop-count.count _ _ _ _ _ _ _ _ _ _ _ _ c.loop-count.invariant.4 c.loop-count.invariant.3 c.loop-count-test.true _ _ _ _ _ _ _ _ _ c.take_step.ensures _ c.loop-count.invariant.1 _ _ c.in-On.is,
  on_steps _ c.loop-count.count _ _ _ _ _ _ _ _ _ _ _ _ c.loop-count.invariant.4 c.loop-count.invariant.3 c.loop-count-test.true _ _ _ _ _ _ _ _ _ c.take_step.ensures _ c.loop-count.invariant.1 _ _ c.in-On.is,
)

pub shape_of-out-in-Sent : goal.shape_of-out-in-Sent
shape_of-out-in-Sent c = search (rules, ap length c.loop-count.invariant.1, c.take_step.type_inv)

pub returns-in-Sent : goal.returns-in-Sent
returns-in-Sent c = sent_counts _ c.loop-count.count _ _ _ _ _ _ _ _ _ _ _ _ c.loop-count.invariant.4 c.loop-count.invariant.3 c.loop-count-test.true _ _ _ _ _ _ _ _ _ c.take_step.ensures _ c.loop-count.invariant.1 _ c.in-Sent.is

pub shape_of-out-in-Ends : goal.shape_of-out-in-Ends
shape_of-out-in-Ends c = search (rules, ap length c.loop-count.invariant.1, c.take_step.type_inv)

pub returns-in-Ends : goal.returns-in-Ends
returns-in-Ends c = end_counts _ c.loop-count.count _ _ _ _ _ _ _ _ _ _ _ _ c.loop-count.invariant.4 c.loop-count.invariant.3 c.loop-count-test.true _ _ _ _ _ _ _ _ _ c.take_step.ensures _ c.loop-count.invariant.1 _ c.in-Ends.is _ c.end_page.ensures.temporary_after c.end_page.ensures.temporary_after_2 _ c.end_page.ensures.guard_after c.end_page.ensures.guard_after_2 _ c.end_page.ensures.value

pub shape_of-out : goal.shape_of-out
shape_of-out c = ap length c.loop-count.invariant.1

pub returns : goal.returns
returns c = rw (← c.loop-count.invariant.1) (run_out _ c.loop-count.count _ _ c.loop-count.invariant.4 c.loop-count.invariant.3 _ c.loop-count-test.false c.loop-count.invariant.0)
