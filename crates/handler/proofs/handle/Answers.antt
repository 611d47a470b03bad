-- `handler::handle` meets its contract. The invariants: what is left to be searched, of this list and of those behind it, gives the answer.
use borrow.Author.Rules.{rules}
use Rattle.handler.proofs.Lists.{search_laws}
use Rattle.handler.proofs.handle.Goals as goal

pub returns-then-decides : goal.returns-then-decides
returns-then-decides c = search (rules, search_laws)
