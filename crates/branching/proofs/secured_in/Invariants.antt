-- `branching::secured_in` meets its contract. The invariant: the worst complaint so far and those from here on come to that of the whole value.
use Prim.Native.Nat.{◌-◌}
use mathlib.Core.Bool.{true}
use mathlib.Core.Path.{◌≡◌}
use Rattle.rules.specs.Pieces.{pieces}
use Rattle.rules.specs.Page.{service}
use Rattle.rules.specs.Store.{worse}
use Rattle.rules.specs.Step.{secured_in}
use Rattle.branching.proofs.secured_in.Given as goal

abbrev pub invariant-loop-at : goal.invariant-loop-at
invariant-loop-at l = worse l.worst (secured_in (service l.page) (pieces true l.page l.at l.end)) ≡ secured_in (service l.page) (pieces true l.page l.from l.end)

abbrev pub decreases-loop-at : goal.decreases-loop-at
decreases-loop-at l = l.end - l.at
