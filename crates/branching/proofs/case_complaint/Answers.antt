-- `branching::case_complaint` meets its contract.
use Rattle.tlv.proofs.Bounds.{next_laws}
use Rattle.branching.proofs.SecuredLaws.{case_laws}
use borrow.Author.Rules.{rules}
use Rattle.branching.proofs.case_complaint.Goals as goal

pub bounds-page-tlv : goal.bounds-page-tlv
bounds-page-tlv c = search (rules, next_laws, case_laws)

pub content_at-requires : goal.content_at-requires
content_at-requires c = search (rules, next_laws, case_laws)

pub secured_in-requires : goal.secured_in-requires
secured_in-requires c = search (rules, next_laws, case_laws)
