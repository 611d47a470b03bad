-- `all_distinct` meets its contract: what the records to come say is what all say.
use mathlib.Core.Path.{◌≡◌}
use lib.ListN.{length, drop}
use Rattle.records.specs.Records.{records, distinct}
use Rattle.records.proofs.all_distinct.Given as goal

abbrev pub invariant-loop-k : goal.invariant-loop-k
invariant-loop-k l = (length l.s ≡ 17920) × (distinct (drop l.k (records l.s)) ≡ distinct (records l.s))
