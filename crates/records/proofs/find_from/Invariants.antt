-- `find_from` meets its contract: the search from here finds what the search from the start does.
use mathlib.Core.Path.{◌≡◌}
use lib.ListN.{length, drop}
use Rattle.rules.specs.Store.{record_from}
use Rattle.records.specs.Records.{records}
use Rattle.records.proofs.find_from.Given as goal

abbrev pub invariant-loop-k : goal.invariant-loop-k
invariant-loop-k l = (length l.s ≡ 17920) × (record_from l.k l.id l.number (drop l.k (records l.s)) ≡ record_from l.from l.id l.number (drop l.from (records l.s)))
