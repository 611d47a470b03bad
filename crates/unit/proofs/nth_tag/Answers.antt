-- `unit::nth_tag` meets its contract. The invariant: the one that is left to be found, from here on, is the one from the start.
use borrow.Author.Rules.{rules}
use Rattle.unit.proofs.Nths.{nth_laws}
use Rattle.unit.proofs.nth_tag.Goals as goal

pub loop-tlv-preserved-else-left-eq0 : goal.loop-tlv-preserved-else-left-eq0
loop-tlv-preserved-else-left-eq0 c = search (rules, nth_laws)

pub loop-tlv-preserved : goal.loop-tlv-preserved
loop-tlv-preserved c = search (rules, nth_laws)
