-- `moving::depart` meets its contract.
use Rattle.moving.proofs.MoveLaws.{depart_is}
use borrow.Author.Rules.{rules}
use Rattle.moving.proofs.depart.Goals as goal

pub returns : goal.returns
returns c card is ok short = search (rules, depart_is _ card is ok)
