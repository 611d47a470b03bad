-- `variable::string_value` meets its contract.
use Rattle.variable.proofs.VariableLaws.{string_laws}
use borrow.Author.Rules.{rules}
use Rattle.variable.proofs.string_value.Goals as goal

pub returns-in-Some : goal.returns-in-Some
returns-in-Some c = search (rules, string_laws)
