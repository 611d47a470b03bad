-- The bytes that have come fit, and each turn that goes on reads more.
use Rattle.std.proofs.Common.{length, ◌-◌, ◌≤◌}
use Rattle.playing.proofs.read_full.Given as goal

abbrev pub invariant-loop-done : goal.invariant-loop-done
invariant-loop-done g l = l.done ≤ length l.bytes

abbrev pub decreases-loop-done : goal.decreases-loop-done
decreases-loop-done g l = length l.bytes - l.done
