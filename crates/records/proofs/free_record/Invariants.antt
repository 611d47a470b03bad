-- `free_record` meets its contract: the search from here finds what the search from the start does.
use mathlib.Core.Path.{◌≡◌}
use lib.ListN.{drop}
use Rattle.rules.specs.Store.{free_from}
use Rattle.records.specs.Records.{records}
use Rattle.records.proofs.free_record.Given as goal

abbrev pub invariant-loop-k : goal.invariant-loop-k
invariant-loop-k l = (free_from l.k (drop l.k (records l.area)) ≡ free_from 0 (records l.area))
