-- `branching::secured_in` meets its contract. The invariant: the worst complaint so far and those from here on come to that of the whole value.
use Rattle.branching.proofs.SecuredLaws.{secured_laws}
use borrow.Author.Rules.{rules}
use Rattle.branching.proofs.secured_in.Goals as goal

pub loop-at-preserved : goal.loop-at-preserved
loop-at-preserved c = search (rules, secured_laws)
