-- `results::write_results` meets its contract.
use mathlib.Core.Path.{ap}
use Rattle.results.proofs.ResultsLaws.{results_full, results_wrote}
use Rattle.std.specs.Prelude.{is_ok}
use borrow.Author.Rules.{rules}
use Rattle.results.proofs.write_results.Goals as goal

pub returns-in_err-write_general-clause-by_index : goal.returns-in_err-write_general-clause-by_index
returns-in_err-write_general-clause-by_index c = search (rules, results_full, ap is_ok c.in_err-write_general.was)

pub returns-clause-by_index : goal.returns-clause-by_index
returns-clause-by_index c = λ env stop. results_wrote _ env _ _ _ _ _ stop _ _ _ _ _ c.write_general.ensures.by_index (ap is_ok c.in_ok-write_general.was) _ (c.write_output.ensures.by_index env stop)

pub returns-clause-temp_after : goal.returns-clause-temp_after
returns-clause-temp_after c = λ t. c.write_output.ensures.temp_after (c.write_general.ensures.temp_after t)

pub returns-clause-perm_after : goal.returns-clause-perm_after
returns-clause-perm_after c = λ t. c.write_output.ensures.perm_after (c.write_general.ensures.perm_after t)
