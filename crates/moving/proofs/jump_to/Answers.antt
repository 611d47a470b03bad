-- `moving::jump_to` meets its contract.
use Rattle.moving.proofs.MoveLaws.{jump_is}
use borrow.Author.Rules.{rules}
use Rattle.moving.proofs.jump_to.Goals as goal

pub returns : goal.returns
returns c card is ok = search (rules, jump_is _ card is)
