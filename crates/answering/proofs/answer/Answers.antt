-- `answering::answer` meets its contract.
use Rattle.answering.proofs.AnswerLaws.{answer_out, answer_lacks, answer_goes, code_bounds}
use borrow.Author.Rules.{rules}
use Rattle.answering.proofs.answer.Goals as goal

pub returns-in_default : goal.returns-in_default
returns-in_default c card is running waits = search (rules, answer_out _ card is running, answer_lacks _ card is running, answer_goes _ card is running)

pub returns-then-lacks : goal.returns-then-lacks
returns-then-lacks c card is running waits = search (rules, answer_out _ card is running, answer_lacks _ card is running, answer_goes _ card is running)

pub store_results-requires : goal.store_results-requires
store_results-requires c = search (rules, code_bounds)

pub returns : goal.returns
returns c card is running waits = search (rules, answer_out _ card is running, answer_lacks _ card is running, answer_goes _ card is running)
