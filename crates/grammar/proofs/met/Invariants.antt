-- `met` is the test of the rules. The loop's invariant: what is left of the row comes to what the whole row comes to.
use Prim.Native.Nat.{◌≤◌, ◌-◌}
use mathlib.Core.Path.{◌≡◌}
use Rattle.rules.specs.Tlvs.{tlvs}
use Rattle.rules.specs.Grammar.{gap_of, met_in, met}
use Rattle.grammar.proofs.met.Given as goal

abbrev pub invariant-loop-at : goal.invariant-loop-at
invariant-loop-at l = (l.at ≤ l.end) × (met_in l.kind l.need l.end (tlvs l.gap l.s l.at l.end) ≡ met l.kind l.need l.end (tlvs (gap_of l.kind) l.s l.from l.end))

abbrev pub decreases-loop-at : goal.decreases-loop-at
decreases-loop-at l = l.end - l.at
