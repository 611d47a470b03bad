-- What is left to write gives what the whole gives.
use Rattle.std.proofs.Common.{◌≡◌, ◌-◌, length}
use Rattle.lines.specs.Hex.{hexed_from, hexed}
use Rattle.lines.proofs.hex.Given as goal

abbrev pub invariant-loop-i : goal.invariant-loop-i
invariant-loop-i l = (length l.out ≡ length l.initial.out) × (hexed_from (length l.bytes - l.i) l.i l.bytes l.out ≡ hexed l.bytes l.initial.out)
