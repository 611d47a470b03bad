-- `lay` meets its contract.
use Rattle.records.proofs.WriteLaws.{write_laws}
use borrow.Author.Rules.{rules}
use Rattle.records.proofs.lay.Goals as goal

pub returns : goal.returns
returns c = search (rules, write_laws)
