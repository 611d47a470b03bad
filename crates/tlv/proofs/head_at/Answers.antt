-- `tlv::head_at` meets its contract.
use borrow.Author.Rules.{rules}
use Rattle.tlv.proofs.Ways.{head_laws}
use Rattle.tlv.proofs.head_at.Goals as goal

pub returns : goal.returns
returns c = search (rules, head_laws)
