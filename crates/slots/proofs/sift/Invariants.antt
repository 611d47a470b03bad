-- `sift` meets its contract: what is done from here on comes to what is done from the start.
use Prim.Native.Nat.{◌-◌}
use mathlib.Core.Path.{◌≡◌}
use lib.ListN.{length}
use Rattle.slots.specs.Slots.{sifted}
use Rattle.slots.proofs.sift.Given as goal

abbrev pub invariant-loop-k : goal.invariant-loop-k
invariant-loop-k l = (length l.area ≡ 16640) × (length l.initial.area ≡ 16640) × (sifted l.numbers l.k (64 - l.k) l.area ≡ sifted l.numbers 0 64 l.initial.area)
