-- `moving::run_out` meets its contract.
use Rattle.moving.proofs.MoveLaws.{run_out_is}
use borrow.Author.Rules.{rules}
use Rattle.moving.proofs.run_out.Goals as goal

pub returns : goal.returns
returns c card is ok = search (rules, run_out_is _ card is ok)
