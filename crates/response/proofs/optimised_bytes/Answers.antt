-- `response::optimised_bytes` meets its contract.
use borrow.Author.Rules.{rules}
use Rattle.response.proofs.ResponseLaws.{bytes_laws}
use Rattle.response.proofs.optimised_bytes.Goals as goal

pub returns-then-tlv-ne13 : goal.returns-then-tlv-ne13
returns-then-tlv-ne13 c = search (rules, bytes_laws)

pub returns-then-tlv : goal.returns-then-tlv
returns-then-tlv c = search (rules, bytes_laws)
