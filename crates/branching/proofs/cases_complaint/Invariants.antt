-- `branching::cases_complaint` meets its contract. The invariant: the worst complaint so far and those of the cases from here on come to that of all.
use Prim.Native.Nat.{◌-◌}
use mathlib.Core.Path.{◌≡◌}
use Rattle.rules.specs.Tlvs.{tlvs}
use Rattle.rules.specs.Store.{worse}
use Rattle.rules.specs.Step.{cases_complaint}
use Rattle.branching.proofs.cases_complaint.Given as goal

abbrev pub invariant-loop-at : goal.invariant-loop-at
invariant-loop-at l = worse l.worst (cases_complaint l.page (tlvs 0 l.page l.at l.end)) ≡ cases_complaint l.page (tlvs 0 l.page l.from l.end)

abbrev pub decreases-loop-at : goal.decreases-loop-at
decreases-loop-at l = l.end - l.at
