-- `page::part_in` meets its contract. The invariant: the first TLV with the tag, from here on, is the first from the start.
use Prim.Native.Nat.{◌-◌}
use mathlib.Core.Path.{◌≡◌}
use Rattle.rules.specs.Tlvs.{tlvs}
use Rattle.rules.specs.Page.{part_in}
use Rattle.page.proofs.part_in.Given as goal

abbrev pub invariant-loop-tlv : goal.invariant-loop-tlv
invariant-loop-tlv l = part_in l.tag (tlvs 0 l.s l.at l.end) ≡ part_in l.tag (tlvs 0 l.s l.from l.end)

abbrev pub decreases-loop-tlv : goal.decreases-loop-tlv
decreases-loop-tlv l = l.end - l.at
