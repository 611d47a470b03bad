-- `moving::fail` meets its contract.
use Rattle.moving.proofs.MoveLaws.{fail_is}
use borrow.Author.Rules.{rules}
use Rattle.moving.proofs.fail.Goals as goal

pub returns : goal.returns
returns c card is ok = search (rules, fail_is _ card is)
