-- `valuetype::shared_type` meets its contract. The invariant: what the variables from here on share with the first is what all share.
use Prim.Native.Nat.{◌-◌}
use mathlib.Core.Path.{◌≡◌}
use Rattle.rules.specs.Bytes.{part}
use Rattle.rules.specs.Pieces.{named}
use Rattle.rules.specs.Value.{shared_with, shared}
use Rattle.variable.specs.View.{viewed}
use Rattle.valuetype.proofs.shared_type.Given as goal

abbrev pub invariant-loop-at : goal.invariant-loop-at
invariant-loop-at l = shared_with l.first (viewed l.view) (named (part l.view.page.now l.at l.end)) ≡ shared (viewed l.view) (named (part l.view.page.now l.from l.end))

abbrev pub decreases-loop-at : goal.decreases-loop-at
decreases-loop-at l = l.end - l.at
