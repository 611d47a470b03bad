-- `unit::is_place_in` meets its contract. The invariant: the place is found, from here on, where it is found from the start.
use Prim.Native.Nat.{◌-◌}
use mathlib.Core.Path.{◌≡◌}
use Rattle.rules.specs.Tlvs.{tlvs}
use Rattle.rules.specs.Page.{is_place_in}
use Rattle.unit.proofs.is_place_in.Given as goal

abbrev pub invariant-loop-at : goal.invariant-loop-at
invariant-loop-at l = is_place_in l.place (tlvs 0 l.s l.at l.end) ≡ is_place_in l.place (tlvs 0 l.s l.from l.end)

abbrev pub decreases-loop-at : goal.decreases-loop-at
decreases-loop-at l = l.end - l.at
