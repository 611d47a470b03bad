-- `reference::unit_from` meets its contract. The invariant: the unit that is found from here on, over those that were passed, is the one from the start.
use borrow.Author.Rules.{rules}
use Rattle.tlv.proofs.Bounds.{next_laws}
use Rattle.reference.proofs.Targets.{from_laws}
use Rattle.reference.proofs.unit_from.Goals as goal

pub content_at-content-requires : goal.content_at-content-requires
content_at-content-requires c = search (rules, next_laws)

pub part_is-requires : goal.part_is-requires
part_is-requires c = search (rules, next_laws)

pub overflow_add-k : goal.overflow_add-k
overflow_add-k c = search (rules, next_laws)

pub loop-tlv-preserved-else-part_is : goal.loop-tlv-preserved-else-part_is
loop-tlv-preserved-else-part_is c = search (rules, next_laws, from_laws)

pub loop-tlv-preserved : goal.loop-tlv-preserved
loop-tlv-preserved c = search (rules, next_laws, from_laws)
