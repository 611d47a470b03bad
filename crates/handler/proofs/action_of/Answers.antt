-- `handler::action_of` meets its contract.
use borrow.Author.Rules.{rules}
use Rattle.handler.proofs.Actions.{modifier_laws}
use Rattle.handler.proofs.action_of.Goals as goal

pub content_at-requires : goal.content_at-requires
content_at-requires c = search (rules, modifier_laws)

pub modifier_at-requires-clause-stop_in_bounds : goal.modifier_at-requires-clause-stop_in_bounds
modifier_at-requires-clause-stop_in_bounds c = search (rules, modifier_laws)
