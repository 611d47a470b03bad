-- `unit::nth_tag` meets its contract. The invariant: the one that is left to be found, from here on, is the one from the start.
use Prim.Native.Nat.{◌-◌}
use mathlib.Core.Path.{◌≡◌}
use Rattle.rules.specs.Tlvs.{tlvs}
use Rattle.unit.specs.Nth.{nth_in}
use Rattle.unit.proofs.nth_tag.Given as goal

abbrev pub invariant-loop-tlv : goal.invariant-loop-tlv
invariant-loop-tlv l = nth_in l.tag l.left (tlvs 0 l.s l.at l.end) ≡ nth_in l.tag l.n (tlvs 0 l.s l.from l.end)

abbrev pub decreases-loop-tlv : goal.decreases-loop-tlv
decreases-loop-tlv l = l.end - l.at
