-- `variable::permanent_value` meets its contract.
use Rattle.variable.proofs.ServiceLaws.{permanent_laws}
use borrow.Author.Rules.{rules}
use Rattle.variable.proofs.permanent_value.Goals as goal

pub returns-in-Some : goal.returns-in-Some
returns-in-Some c = search (rules, permanent_laws)
