-- `room_of` meets its contract: the sum so far and the room of the slots to come are the whole room.
use Rattle.slots.proofs.RoomLaws.{room_laws}
use borrow.Author.Rules.{rules}
use Rattle.slots.proofs.room_of.Goals as goal

pub loop-k-preserved : goal.loop-k-preserved
loop-k-preserved c = search (rules, room_laws)

pub returns : goal.returns
returns c = search (rules, room_laws)
