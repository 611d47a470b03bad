-- `leaving::entry_into` meets its contract.
use Rattle.leaving.proofs.EntryLaws.{entry_laws}
use borrow.Author.Rules.{rules}
use Rattle.leaving.proofs.entry_into.Goals as goal

pub returns : goal.returns
returns c = search (rules, entry_laws)
