-- `handler::action_in` meets its contract. The invariant: the first action from here on is the first from the start.
use borrow.Author.Rules.{rules}
use Rattle.tlv.proofs.Bounds.{next_laws}
use Rattle.handler.proofs.action_in.Goals as goal

pub content_at-content-requires : goal.content_at-content-requires
content_at-content-requires c = search (rules, next_laws)

pub bounds-s-content : goal.bounds-s-content
bounds-s-content c = search (rules, next_laws)

pub action_by-requires : goal.action_by-requires
action_by-requires c = search (rules, next_laws)
