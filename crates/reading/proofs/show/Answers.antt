-- `reading::show` meets its contract.
use Rattle.reading.proofs.ShowLaws.{value_long, value_shown}
use borrow.Author.Rules.{rules}
use Rattle.reading.proofs.show.Goals as goal

pub returns-then-bytes-gt255 : goal.returns-then-bytes-gt255
returns-then-bytes-gt255 c short = search (rules, value_long, short)

pub returns : goal.returns
returns c short = search (rules, value_shown)
