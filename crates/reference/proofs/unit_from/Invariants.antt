-- `reference::unit_from` meets its contract. The invariant: the unit that is found from here on, over those that were passed, is the one from the start.
use Prim.Native.Nat.{◌≤◌, ◌-◌}
use mathlib.Core.Path.{◌≡◌}
use Rattle.rules.specs.Tlvs.{tlvs}
use Rattle.rules.specs.Reference.{unit_from}
use Rattle.reference.proofs.unit_from.Given as goal

abbrev pub invariant-loop-tlv : goal.invariant-loop-tlv
invariant-loop-tlv l = (l.k ≤ l.at) × (unit_from l.s l.name l.k (tlvs 0 l.s l.at l.end) ≡ unit_from l.s l.name 0 (tlvs 0 l.s l.from l.end))

abbrev pub decreases-loop-tlv : goal.decreases-loop-tlv
decreases-loop-tlv l = l.end - l.at
