-- `moving::go_on` meets its contract.
use Rattle.moving.proofs.MoveLaws.{go_on_is}
use borrow.Author.Rules.{rules}
use Rattle.moving.proofs.go_on.Goals as goal

pub returns : goal.returns
returns c card is = search (rules, go_on_is _ card is)
