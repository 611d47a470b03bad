-- `starting::start` meets its contract.
use Rattle.starting.proofs.StartLaws.{start_is}
use borrow.Author.Rules.{rules}
use Rattle.starting.proofs.start.Goals as goal

pub returns : goal.returns
returns c card is = search (rules, start_is _ card is)
