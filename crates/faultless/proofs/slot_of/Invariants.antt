-- `slot_of` is the slot of a name. The loop's invariant: what is left of the name comes to the slot of the whole.
use Prim.Native.Nat.{◌<◌}
use mathlib.Core.Path.{◌≡◌}
use lib.ListN.{drop}
use Rattle.faultless.specs.Clean.{slot_in, slot_of}
use Rattle.faultless.proofs.slot_of.Given as goal

abbrev pub invariant-loop-b : goal.invariant-loop-b
invariant-loop-b l = (l.slot < 1024) × (slot_in l.slot (drop l.b-index l.name) ≡ slot_of l.name)
