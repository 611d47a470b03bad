-- `setting::pairs_complaint` meets its contract. The invariant: the worst complaint so far, and those of the pairs from here on with the
-- numbers met so far as known, come to that of all pairs.
use Prim.Native.Nat.{◌+◌, ◌-◌, ◌≤◌}
use mathlib.Core.List.{[]}
use mathlib.Core.Path.{◌≡◌}
use lib.ListN.{length, take}
use Rattle.rules.specs.Tlvs.{tlvs}
use Rattle.rules.specs.Store.{worse}
use Rattle.rules.specs.Step.{setting_complaint}
use Rattle.variable.specs.View.{viewed}
use Rattle.setting.proofs.pairs_complaint.Given as goal

abbrev pub invariant-loop-at : goal.invariant-loop-at
invariant-loop-at l = (length l.met ≡ 2048) × (l.count + l.count ≤ l.at) × (l.at ≤ l.stop) × (worse l.worst (setting_complaint (viewed l.view) (take l.count l.met) (tlvs 1 l.view.page.now l.at l.stop)) ≡ setting_complaint (viewed l.view) [] (tlvs 1 l.view.page.now l.start l.stop))

abbrev pub decreases-loop-at : goal.decreases-loop-at
decreases-loop-at l = l.stop - l.at
