-- `value::complaint_from` meets its contract. The invariant: the worst complaint so far and those from here on come to that of the whole value.
use Rattle.value.proofs.ComplaintLaws.{complaint_laws}
use borrow.Author.Rules.{rules}
use Rattle.value.proofs.complaint_from.Goals as goal

pub loop-at-preserved : goal.loop-at-preserved
loop-at-preserved c = search (rules, complaint_laws)
