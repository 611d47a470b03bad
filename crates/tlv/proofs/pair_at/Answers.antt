-- `tlv::pair_at` meets its contract.
use borrow.Author.Rules.{rules}
use Rattle.tlv.proofs.Ways.{pair_laws}
use Rattle.tlv.proofs.pair_at.Goals as goal

pub overflow_sub-end-2 : goal.overflow_sub-end-2
overflow_sub-end-2 c = search (rules, pair_laws)

pub returns : goal.returns
returns c = search (rules, pair_laws)
