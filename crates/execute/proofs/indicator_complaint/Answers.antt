-- `execute::indicator_complaint` meets its contract. The invariant: the worst complaint so far and those from here on come to that of all Simple TLVs.
use Rattle.tlv.proofs.Bounds.{next_laws}
use borrow.Author.Rules.{rules}
use Rattle.execute.proofs.indicator_complaint.Goals as goal

pub indicator_told-requires : goal.indicator_told-requires
indicator_told-requires c = search (rules, next_laws)
