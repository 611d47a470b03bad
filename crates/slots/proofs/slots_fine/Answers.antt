-- `slots_fine` meets its contract.
use borrow.Author.Rules.{rules}
use Rattle.slots.proofs.FineLaws.{fine_by}
use Rattle.slots.proofs.slots_fine.Goals as goal

pub returns : goal.returns
returns c = fine_by c.args.area.now (search rules) c.as_chunks.result.0.now c.as_chunks.ensures.front _ (search rules)
