-- `leaving::name_of` meets its contract.
use Rattle.leaving.proofs.EntryLaws.{name_laws}
use borrow.Author.Rules.{rules}
use Rattle.leaving.proofs.name_of.Goals as goal

pub returns-in-Some : goal.returns-in-Some
returns-in-Some c = search (rules, name_laws)
