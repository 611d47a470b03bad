-- `room_of` meets its contract: the sum so far and the room of the slots to come are the whole room.
use Prim.Native.Nat.{◌+◌, ◌*◌, ◌≤◌}
use mathlib.Core.Path.{◌≡◌}
use lib.ListN.{drop}
use Rattle.rules.specs.Store.{room}
use Rattle.slots.specs.Slots.{slots}
use Rattle.slots.proofs.room_of.Given as goal

abbrev pub invariant-loop-k : goal.invariant-loop-k
invariant-loop-k l = (l.sum ≤ 255 * l.k) × (l.sum + room (drop l.k (slots l.area)) ≡ room (slots l.area))
