-- `execute::indicator_complaint` meets its contract. The invariant: the worst complaint so far and those from here on come to that of all Simple TLVs.
use Prim.Native.Nat.{◌-◌}
use mathlib.Core.Path.{◌≡◌}
use Rattle.rules.specs.Tlvs.{tlvs}
use Rattle.rules.specs.Store.{worse}
use Rattle.rules.specs.Command.{indicator_complaint}
use Rattle.variable.specs.View.{viewed}
use Rattle.execute.proofs.indicator_complaint.Given as goal

abbrev pub invariant-loop-at : goal.invariant-loop-at
invariant-loop-at l = worse l.worst (indicator_complaint (viewed l.view) (tlvs 0 l.view.page.now l.at l.end)) ≡ indicator_complaint (viewed l.view) (tlvs 0 l.view.page.now l.from l.end)

abbrev pub decreases-loop-at : goal.decreases-loop-at
decreases-loop-at l = l.end - l.at
