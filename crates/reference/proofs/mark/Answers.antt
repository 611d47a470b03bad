-- `reference::mark` meets its contract.
use borrow.Author.Rules.{rules}
use Rattle.reference.proofs.Marks.{mark_by}
use Rattle.reference.proofs.mark.Goals as goal

pub returns : goal.returns
returns c = mark_by c.args.r.now c.rposition.result (search rules)
