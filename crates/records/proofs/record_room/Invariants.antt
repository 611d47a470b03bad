-- `record_room` meets its contract: the sum so far and the room of the records to come are the whole room.
use Prim.Native.Nat.{◌+◌, ◌*◌, ◌≤◌}
use mathlib.Core.Path.{◌≡◌}
use lib.ListN.{drop}
use Rattle.rules.specs.Store.{record_room}
use Rattle.records.specs.Records.{records}
use Rattle.records.proofs.record_room.Given as goal

abbrev pub invariant-loop-k : goal.invariant-loop-k
invariant-loop-k l = (l.sum ≤ 255 * l.k) × (l.sum + record_room (drop l.k (records l.area)) ≡ record_room (records l.area))
