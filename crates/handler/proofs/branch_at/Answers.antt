-- `handler::branch_at` meets its contract.
use borrow.Author.Rules.{rules}
use Rattle.tlv.proofs.Bounds.{next_laws}
use Rattle.handler.proofs.Actions.{branch_laws}
use Rattle.handler.proofs.branch_at.Goals as goal

pub head_at-requires-in-Some : goal.head_at-requires-in-Some
head_at-requires-in-Some c = search (rules, next_laws)

pub returns-in-Some : goal.returns-in-Some
returns-in-Some c = search (rules, branch_laws)
