-- `walk` finds the first fault of the rules. It calls itself with fewer levels left. The loop's invariant: what is left of the row comes to what the
-- whole row comes to.
use Prim.Native.Nat.{◌≤◌, ◌-◌}
use Rattle.rules.specs.Loader.{walk as walk_of}
use Rattle.classes.proofs.WalkLaws.{Left}
use Rattle.classes.proofs.+walk.Given as goal

abbrev pub invariant-loop-at : goal.invariant-loop-at
invariant-loop-at l = (l.at ≤ l.end) × Left l.s l.class l.within l.from l.gap l.end l.left l.at l.last (walk_of l.left l.s l.class l.within l.own l.from l.end)

abbrev pub decreases-loop-at : goal.decreases-loop-at
decreases-loop-at l = l.end - l.at

abbrev pub decreases-walk : goal.decreases-walk
decreases-walk l = l.left
