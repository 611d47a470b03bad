-- `reading::read` meets its contract.
use Rattle.reading.proofs.ReadLaws.{read_environment, read_permanent, read_temporary, read_string}
use borrow.Author.Rules.{rules}
use Rattle.reading.proofs.read.Goals as goal

pub returns-then-number-lt64 : goal.returns-then-number-lt64
returns-then-number-lt64 c card is short = search (rules, read_environment _ card is, read_permanent _ card is, read_temporary _ card is, read_string _ card is)

pub returns-then-number-lt128 : goal.returns-then-number-lt128
returns-then-number-lt128 c card is short = search (rules, read_environment _ card is, read_permanent _ card is, read_temporary _ card is, read_string _ card is)

pub returns-then-number-lt192 : goal.returns-then-number-lt192
returns-then-number-lt192 c card is short = search (rules, read_environment _ card is, read_permanent _ card is, read_temporary _ card is, read_string _ card is)

pub returns : goal.returns
returns c card is short = search (rules, read_environment _ card is, read_permanent _ card is, read_temporary _ card is, read_string _ card is)
