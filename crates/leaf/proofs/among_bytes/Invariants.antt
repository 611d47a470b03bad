-- `leaf::among_bytes` meets its contract. The invariant: the number stands in what is left where it stands in the whole list.
use mathlib.Core.Path.{◌≡◌}
use lib.ListN.{drop}
use Rattle.rules.specs.Bytes.{among}
use Rattle.leaf.proofs.among_bytes.Given as goal

abbrev pub invariant-loop-i : goal.invariant-loop-i
invariant-loop-i l = among (drop l.i l.list) l.n ≡ among l.list l.n
