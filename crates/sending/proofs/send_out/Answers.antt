-- `sending::send_out` meets its contract.
use Rattle.sending.proofs.SendLaws.{send_is}
use borrow.Author.Rules.{rules}
use Rattle.sending.proofs.send_out.Goals as goal

pub returns : goal.returns
returns c card is = search (rules, send_is _ card is)
