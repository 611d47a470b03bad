-- `command::expand` meets its contract. The invariant: the rest, poured from here on, makes of out what all Simple TLVs would, and there is room for it.
use Prim.Native.Nat.{◌+◌, ◌-◌, ◌≤◌}
use mathlib.Core.Path.{◌≡◌}
use lib.ListN.{length}
use Rattle.rules.specs.Tlvs.{tlvs}
use Rattle.rules.specs.Command.{expanded}
use Rattle.pour.specs.Pour.{poured}
use Rattle.variable.specs.View.{viewed}
use Rattle.command.proofs.expand.Given as goal

abbrev pub invariant-loop-at : goal.invariant-loop-at
invariant-loop-at l = (length l.out ≡ length l.initial.out) × (poured l.out l.next (expanded (viewed l.view) (tlvs 0 l.view.page.now l.at l.end)) ≡ poured l.initial.out l.place (expanded (viewed l.view) (tlvs 0 l.view.page.now l.from l.end))) × (l.next + length (expanded (viewed l.view) (tlvs 0 l.view.page.now l.at l.end)) ≤ length l.out)

abbrev pub decreases-loop-at : goal.decreases-loop-at
decreases-loop-at l = l.end - l.at
