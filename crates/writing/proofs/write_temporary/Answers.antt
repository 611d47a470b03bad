-- `writing::write_temporary` meets its contract.
use Rattle.writing.proofs.WriteLaws.{temporary_laws}
use borrow.Author.Rules.{rules}
use Rattle.writing.proofs.write_temporary.Goals as goal

pub returns-then-room-gt2048-clause-by_index : goal.returns-then-room-gt2048-clause-by_index
returns-then-room-gt2048-clause-by_index c = search (rules, temporary_laws)

pub returns-clause-by_index : goal.returns-clause-by_index
returns-clause-by_index c = search (rules, temporary_laws)
