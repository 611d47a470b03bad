-- `tlv::count_tag` meets its contract. The invariant: the count from here on, over those that were met, is the count from the start.
use borrow.Author.Rules.{rules}
use Rattle.tlv.proofs.Bounds.{next_laws}
use Rattle.tlv.proofs.Ways.{count_laws}
use Rattle.tlv.proofs.count_tag.Goals as goal

pub overflow_add-n : goal.overflow_add-n
overflow_add-n c = search (rules, next_laws, count_laws)

pub loop-tlv-preserved-then-tlv-tag : goal.loop-tlv-preserved-then-tlv-tag
loop-tlv-preserved-then-tlv-tag c = search (rules, next_laws, count_laws)

pub loop-tlv-preserved : goal.loop-tlv-preserved
loop-tlv-preserved c = search (rules, next_laws, count_laws)
