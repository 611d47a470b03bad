-- `response::fills` meets its contract. The invariant: the TLVs from here on fill the response where those from the start do.
use borrow.Author.Rules.{rules}
use Rattle.tlv.proofs.Bounds.{next_laws}
use Rattle.response.proofs.ResponseLaws.{fills_laws}
use Rattle.response.proofs.fills.Goals as goal

pub loop-tlv-preserved : goal.loop-tlv-preserved
loop-tlv-preserved c = search (rules, next_laws, fills_laws)
