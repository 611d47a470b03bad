-- `clean` answers true only where no class from 3 on finds a fault. It calls itself with fewer levels left. The loop's invariant: what is left of the
-- row comes to what the whole row comes to, and the modifiers before it are counted.
use Prim.Native.Nat.{◌≤◌, ◌-◌}
use Rattle.faultless.proofs.Front.{Counted}
use Rattle.faultless.proofs.CleanLaws.{Rest}
use Rattle.faultless.proofs.+clean.Given as goal

abbrev pub invariant-loop-at : goal.invariant-loop-at
invariant-loop-at l = (l.at ≤ l.end) × Rest l.s l.within l.anchor l.room l.from l.gap l.end l.left l.at l.last × Counted 0x08 l.s l.gap l.from l.room l.at l.modifiers

abbrev pub decreases-loop-at : goal.decreases-loop-at
decreases-loop-at l = l.end - l.at

abbrev pub decreases-clean : goal.decreases-clean
decreases-clean l = l.left
