-- `branching::cases_complaint` meets its contract. The invariant: the worst complaint so far and those of the cases from here on come to that of all.
use Rattle.tlv.proofs.Bounds.{next_laws}
use Rattle.branching.proofs.SecuredLaws.{cases_laws}
use borrow.Author.Rules.{rules}
use Rattle.branching.proofs.cases_complaint.Goals as goal

pub case_complaint-found-requires : goal.case_complaint-found-requires
case_complaint-found-requires c = search (rules, next_laws, cases_laws)
