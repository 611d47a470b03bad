-- `storing::length_complaint` meets its contract.
use Rattle.storing.proofs.StoreLaws.{complaint_none}
use borrow.Author.Rules.{rules}
use Rattle.storing.proofs.length_complaint.Goals as goal

pub returns : goal.returns
returns c = search (rules, complaint_none)
