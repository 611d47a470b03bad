-- `writing::write_permanent` meets its contract.
use Rattle.writing.proofs.WriteLaws.{permanent_laws}
use borrow.Author.Rules.{rules}
use Rattle.writing.proofs.write_permanent.Goals as goal

pub returns-then-total-gt2048-clause-by_index : goal.returns-then-total-gt2048-clause-by_index
returns-then-total-gt2048-clause-by_index c = search (rules, permanent_laws)

pub returns-clause-by_index : goal.returns-clause-by_index
returns-clause-by_index c = search (rules, permanent_laws)
