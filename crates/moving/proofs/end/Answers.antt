-- `moving::end` meets its contract.
use Rattle.moving.proofs.MoveLaws.{end_is}
use borrow.Author.Rules.{rules}
use Rattle.moving.proofs.end.Goals as goal

pub returns : goal.returns
returns c card is ok = search (rules, end_is _ card is)
