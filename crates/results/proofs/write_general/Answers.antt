-- `results::write_general` meets its contract.
use Rattle.results.proofs.ResultsLaws.{general_laws}
use borrow.Author.Rules.{rules}
use Rattle.results.proofs.write_general.Goals as goal

pub returns-then-attributes-eq1-clause-by_index : goal.returns-then-attributes-eq1-clause-by_index
returns-then-attributes-eq1-clause-by_index c = search (rules, general_laws)

pub returns-clause-by_index : goal.returns-clause-by_index
returns-clause-by_index c = search (rules, general_laws)

pub returns-clause-temp_after : goal.returns-clause-temp_after
returns-clause-temp_after c = λ t. t

pub returns-clause-perm_after : goal.returns-clause-perm_after
returns-clause-perm_after c = λ t. t
