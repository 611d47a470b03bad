-- `sift` meets its contract: what is done from here on comes to what is done from the start.
use Rattle.slots.proofs.KeepLaws.{keep_laws}
use borrow.Author.Rules.{rules}
use Rattle.slots.proofs.sift.Goals as goal

pub loop-k-preserved : goal.loop-k-preserved
loop-k-preserved c = search (rules, keep_laws)

pub returns : goal.returns
returns c = search (rules, keep_laws)
