-- `moving::go_away` meets its contract.
use Rattle.moving.proofs.MoveLaws.{away_is}
use borrow.Author.Rules.{rules}
use Rattle.moving.proofs.go_away.Goals as goal

pub returns : goal.returns
returns c card is ok short = search (rules, away_is _ card is)
