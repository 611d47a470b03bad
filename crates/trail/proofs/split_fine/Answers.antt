-- `trail::split_fine` meets its contract.
use borrow.Author.Rules.{rules}
use Rattle.trail.proofs.FineLaws.{split_laws}
use Rattle.trail.proofs.split_fine.Goals as goal

pub returns-then-length_fine : goal.returns-then-length_fine
returns-then-length_fine c = search (rules, split_laws)
