-- `variable::service_of` meets its contract.
use Rattle.variable.proofs.ServiceLaws.{service_laws}
use borrow.Author.Rules.{rules}
use Rattle.variable.proofs.service_of.Goals as goal

pub returns-in-Some : goal.returns-in-Some
returns-in-Some c = search (rules, service_laws)
