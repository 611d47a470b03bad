-- `judge` is the answer of the rules.
use borrow.Author.Rules.{rules}
use Rattle.loader.proofs.JudgeLaws.{judge_laws, j_rejected, j_on}
use Rattle.loader.proofs.judge.Goals as goal

pub returns-in-Some-class_fault : goal.returns-in-Some-class_fault
returns-in-Some-class_fault c = j_rejected _ _ _ _ c.loop-class.invariant c.loop-class-test.true _ c.class_fault.ensures _ c.in-Some-class_fault.is

pub loop-class-preserved : goal.loop-class-preserved
loop-class-preserved c = j_on _ _ _ _ c.loop-class.invariant c.loop-class-test.true _ c.class_fault.ensures c.in_default-class_fault.is

pub returns : goal.returns
returns c = search (rules, judge_laws)
