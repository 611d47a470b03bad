-- `setting::set_all` meets its contract. The invariant: the pairs from here on, with what the arrays show now, come to what all pairs come to.
use Prim.Native.Nat.{◌-◌, ◌≤◌}
use mathlib.Core.Bool.{true, cond}
use mathlib.Core.Path.{◌≡◌}
use Rattle.rules.specs.Tlvs.{tlvs}
use Rattle.rules.specs.Step.{set_all}
use Rattle.slots.specs.Slots.{tidy_slots}
use Rattle.records.specs.Records.{tidy_records}
use Rattle.variable.specs.View.{view}
use Rattle.setting.proofs.set_all.Given as goal

abbrev pub invariant-loop-at : goal.invariant-loop-at
invariant-loop-at l = (l.at ≤ l.stop) × (set_all (tlvs 1 l.page l.at l.stop) (view l.page l.env l.temp l.perm) ≡ set_all (tlvs 1 l.page l.start l.stop) (view l.page l.env l.initial.temp l.initial.perm)) × (cond (tidy_slots l.initial.temp) (tidy_slots l.temp) true ≡ true) × (cond (tidy_records l.initial.perm) (tidy_records l.perm) true ≡ true)

abbrev pub decreases-loop-at : goal.decreases-loop-at
decreases-loop-at l = l.stop - l.at
