-- `trail::entries_fine` meets its contract.
use borrow.Author.Rules.{rules}
use Rattle.trail.proofs.FineLaws.{entries_by}
use Rattle.trail.proofs.entries_fine.Goals as goal

pub returns : goal.returns
returns c = entries_by c.args.n c.args.body.now (search rules) c.as_chunks.result.0.now c.as_chunks.ensures.front _ (search rules)
