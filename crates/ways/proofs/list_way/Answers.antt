-- `ways::list_way` meets its contract.
use Rattle.ways.proofs.WayLaws.{list_laws}
use borrow.Author.Rules.{rules}
use Rattle.ways.proofs.list_way.Goals as goal

pub length_way-requires-2 : goal.length_way-requires-2
length_way-requires-2 c = search (rules, list_laws)
