-- `reading::show_string` meets its contract.
use Rattle.reading.proofs.ShowLaws.{string_laws}
use borrow.Author.Rules.{rules}
use Rattle.reading.proofs.show_string.Goals as goal

pub returns-in-None : goal.returns-in-None
returns-in-None c short = search (rules, string_laws)

pub returns-in-Some : goal.returns-in-Some
returns-in-Some c short = search (rules, string_laws)
