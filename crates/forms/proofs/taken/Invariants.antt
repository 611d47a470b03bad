-- `taken` is the test of the rules. The loop's invariant: what is left of the row comes to what the whole row comes to.
use Prim.Native.Nat.{◌≤◌, ◌-◌}
use mathlib.Core.Path.{◌≡◌}
use lib.ListN.{length}
use Rattle.rules.specs.Tlvs.{tlvs}
use Rattle.rules.specs.Page.{page_row}
use Rattle.rules.specs.Forms.{taken_in}
use Rattle.forms.proofs.taken.Given as goal

abbrev pub invariant-loop-tlv : goal.invariant-loop-tlv
invariant-loop-tlv l = (l.end ≤ length l.s) × (taken_in l.s l.name l.place (tlvs 0 l.s l.at l.end) ≡ taken_in l.s l.name l.place (page_row l.s))

abbrev pub decreases-loop-tlv : goal.decreases-loop-tlv
decreases-loop-tlv l = l.end - l.at
