-- `keep::opens` meets its contract.
use borrow.Author.Rules.{rules}
use Rattle.keep.proofs.KeepLaws.{open_laws}
use Rattle.keep.proofs.opens.Goals as goal

pub returns-in-Some : goal.returns-in-Some
returns-in-Some c = search (rules, open_laws)
