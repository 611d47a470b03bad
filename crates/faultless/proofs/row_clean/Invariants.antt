-- `row_clean` answers true only where no class from 3 on finds a fault in the page's parts. The loop's invariant: what is left of them comes to what
-- they come to, the units and modifiers before are counted, and a name whose slot is not seen is no anchor before.
use Prim.Native.Nat.{◌+◌, ◌-◌, ◌≤◌}
use mathlib.Core.Path.{◌≡◌}
use Rattle.rules.specs.Tlvs.{tlvs, count}
use Rattle.faultless.proofs.Front.{Counted}
use Rattle.faultless.proofs.SlotLaws.{Unseen}
use Rattle.faultless.proofs.PageLaws.{Rest}
use Rattle.faultless.proofs.row_clean.Given as goal

abbrev pub invariant-loop-at : goal.invariant-loop-at
invariant-loop-at l = (l.at ≤ l.end) × Rest l.s l.from l.end l.at l.last × Counted 0x0A l.s 0 l.from 64 l.at l.units × Counted 0x08 l.s 0 l.from 32 l.at l.modifiers × (l.own ≡ count 0x08 (tlvs 0 l.s l.from l.end)) × (l.room + l.own ≤ 32) × Unseen l.s l.from l.end l.at l.slots

abbrev pub decreases-loop-at : goal.decreases-loop-at
decreases-loop-at l = l.end - l.at
