-- `answering::follow` meets its contract.
use Rattle.answering.proofs.AnswerLaws.{follow_again, follow_other, hand_short}
use borrow.Author.Rules.{rules}
use Rattle.answering.proofs.follow.Goals as goal

pub send_out-requires : goal.send_out-requires
send_out-requires c = search (rules, hand_short)

pub returns-then-is_retry : goal.returns-then-is_retry
returns-then-is_retry c card is ok fine bound waits = search (rules, follow_again _ card is, follow_other _ card is)

pub returns : goal.returns
returns c card is ok fine bound waits = search (rules, follow_again _ card is, follow_other _ card is)
