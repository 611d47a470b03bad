-- `results::write_output` meets its contract.
use Rattle.results.proofs.ResultsLaws.{output_laws}
use borrow.Author.Rules.{rules}
use Rattle.results.proofs.write_output.Goals as goal

pub returns-then-attributes-eq1-clause-by_index : goal.returns-then-attributes-eq1-clause-by_index
returns-then-attributes-eq1-clause-by_index c = search (rules, output_laws)

pub returns-clause-by_index : goal.returns-clause-by_index
returns-clause-by_index c = search (rules, output_laws)

pub returns-clause-temp_after : goal.returns-clause-temp_after
returns-clause-temp_after c = λ t. t

pub returns-clause-perm_after : goal.returns-clause-perm_after
returns-clause-perm_after c = λ t. t
