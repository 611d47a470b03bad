-- `running::take_steps` meets its contract.
use Prim.Native.Nat.{◌-◌, ◌≤◌}
use mathlib.Core.Path.{◌≡◌}
use lib.ListN.{length}
use Rattle.rules.specs.Calls.{steps}
use Rattle.state.specs.State.{card}
use Rattle.parts.specs.Parts.{laid}
use Rattle.stepping.specs.Took.{Ready}
use Rattle.running.proofs.take_steps.Given as goal

abbrev pub invariant-loop-count : goal.invariant-loop-count
invariant-loop-count l = (l.count ≤ l.most) × (l.out ≡ l.initial.out) × (255 ≤ length l.out) × Ready (laid l.page l.len l.environment l.temporary l.permanent l.trail l.guard l.hand l.wanted l.unit l.place)
    × (steps (l.most - l.count) l.count (card (laid l.page l.len l.environment l.temporary l.permanent l.trail l.guard l.hand l.wanted l.unit l.place)) ≡ steps l.most 0 (card (laid l.page l.len l.initial.environment l.initial.temporary l.initial.permanent l.initial.trail l.initial.guard l.initial.hand l.initial.wanted l.initial.unit l.initial.place)))

abbrev pub decreases-loop-count : goal.decreases-loop-count
decreases-loop-count l = l.most - l.count
