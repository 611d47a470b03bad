-- `state::rest` meets its contract.
use Rattle.state.proofs.RestLaws.{rest_is}
use borrow.Author.Rules.{rules}
use Rattle.state.proofs.rest.Goals as goal

pub returns : goal.returns
returns c card is short = search (rules, rest_is _ card is short)
