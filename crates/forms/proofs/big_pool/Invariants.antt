-- `big_pool` is the test of the rules. The loop's invariant: what is left of the pool comes to what the whole pool comes to.
use Prim.Native.Nat.{◌-◌}
use mathlib.Core.Path.{◌≡◌}
use mathlib.Core.Bool.{false}
use Rattle.rules.specs.Pieces.{pieces}
use Rattle.rules.specs.Forms.{big_pool}
use Rattle.forms.proofs.big_pool.Given as goal

abbrev pub invariant-loop-at : goal.invariant-loop-at
invariant-loop-at l = big_pool l.n (pieces false l.s l.at l.end) ≡ big_pool 0 (pieces false l.s l.from l.end)

abbrev pub decreases-loop-at : goal.decreases-loop-at
decreases-loop-at l = l.end - l.at
