-- `branching::follow_in` meets its contract.
use Rattle.tlv.proofs.Bounds.{next_laws}
use Rattle.branching.proofs.ChooseLaws.{follow_laws}
use borrow.Author.Rules.{rules}
use Rattle.branching.proofs.follow_in.Goals as goal

pub head_at-requires-in-Some : goal.head_at-requires-in-Some
head_at-requires-in-Some c = search (rules, next_laws, follow_laws)

pub returns-in-Some : goal.returns-in-Some
returns-in-Some c = search (rules, next_laws, follow_laws)
