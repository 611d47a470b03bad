-- `moving::enter` meets its contract.
use Rattle.moving.proofs.MoveLaws.{enter_is}
use borrow.Author.Rules.{rules}
use Rattle.moving.proofs.enter.Goals as goal

pub returns : goal.returns
returns c card is = search (rules, enter_is _ card is)
