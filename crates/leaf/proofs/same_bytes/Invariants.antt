-- `leaf::same_bytes` meets its contract. The invariant: what is left of the two compares as the whole does.
use mathlib.Core.Path.{◌≡◌}
use lib.ListN.{drop}
use Rattle.rules.specs.Bytes.{same}
use Rattle.leaf.proofs.same_bytes.Given as goal

abbrev pub invariant-loop-i : goal.invariant-loop-i
invariant-loop-i l = same l.a l.b ≡ same (drop l.i l.a) (drop l.i l.b)
