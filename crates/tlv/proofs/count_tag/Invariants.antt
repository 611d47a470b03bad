-- `tlv::count_tag` meets its contract. The invariant: the count from here on, over those that were met, is the count from the start.
use Prim.Native.Nat.{◌≤◌, ◌-◌}
use mathlib.Core.Path.{◌≡◌}
use Rattle.rules.specs.Tlvs.{tlvs, count, count_in}
use Rattle.tlv.proofs.count_tag.Given as goal

abbrev pub invariant-loop-tlv : goal.invariant-loop-tlv
invariant-loop-tlv l = (l.n ≤ l.at) × (count_in l.tag l.n (tlvs 0 l.s l.at l.end) ≡ count l.tag (tlvs 0 l.s l.from l.end))

abbrev pub decreases-loop-tlv : goal.decreases-loop-tlv
decreases-loop-tlv l = l.end - l.at
