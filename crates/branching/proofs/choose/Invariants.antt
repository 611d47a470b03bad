-- `branching::choose` meets its contract. The invariant: the cases from here on come to what all come to.
use Prim.Native.Nat.{◌-◌}
use mathlib.Core.Path.{◌≡◌}
use Rattle.rules.specs.Tlvs.{tlvs}
use Rattle.rules.specs.Step.{choose}
use Rattle.variable.specs.View.{viewed}
use Rattle.branching.proofs.choose.Given as goal

abbrev pub invariant-loop-at : goal.invariant-loop-at
invariant-loop-at l = choose (viewed l.view) l.bytes (tlvs 0 l.view.page.now l.at l.end) ≡ choose (viewed l.view) l.bytes (tlvs 0 l.view.page.now l.from l.end)

abbrev pub decreases-loop-at : goal.decreases-loop-at
decreases-loop-at l = l.end - l.at
