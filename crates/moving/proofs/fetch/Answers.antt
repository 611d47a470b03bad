-- `moving::fetch` meets its contract.
use Rattle.moving.proofs.MoveLaws.{fetch_is}
use Rattle.moving.proofs.fetch.Goals as goal

pub returns : goal.returns
returns c card is ok short = fetch_is _ card is _ _ c.want.ensures.wanted_after c.want.ensures.wanted_after_2 ok short _ c.rest.ensures
