-- `answering::store_results` meets its contract.
use Rattle.answering.proofs.AnswerLaws.{results_stored, results_full, content_fits}
use Rattle.storing.proofs.StoreLaws.{bound_laws}
use mathlib.Core.List.{[]}
use mathlib.Core.Path.{ap}
use Rattle.std.specs.Prelude.{is_ok}
use borrow.Author.Rules.{rules}
use Rattle.answering.proofs.store_results.Goals as goal

pub attribute_of-attributes-requires : goal.attribute_of-attributes-requires
attribute_of-attributes-requires c = search (rules, content_fits, bound_laws)

pub content_at-at-requires : goal.content_at-at-requires
content_at-at-requires c = search (rules, content_fits, bound_laws)

pub write_results-requires : goal.write_results-requires
write_results-requires c = search (rules, content_fits, bound_laws)

pub returns-in-Ok : goal.returns-in-Ok
returns-in-Ok c card is ok fine bound waits lacking = results_stored _ card is _ _ _ _ _ _ _ _ _ _ lacking _ c.page_of-page.ensures.0 _ _ c.attribute_of-attributes.ensures c.content_at-at.ensures _ _ _ c.write_results.ensures.by_index (ap is_ok c.in-Ok.is)
    c.write_results.ensures.temp_after c.write_results.ensures.perm_after ok fine bound waits c.follow.ensures

pub returns-in-Err : goal.returns-in-Err
returns-in-Err c card is ok fine bound waits lacking = results_full _ card is _ [] _ _ _ _ _ _ _ _ lacking _ c.page_of-page.ensures.0 _ _ c.attribute_of-attributes.ensures c.content_at-at.ensures _ _ _ c.write_results.ensures.by_index (ap is_ok c.in-Err.is)
    ok c.fail.ensures
