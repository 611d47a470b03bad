-- `command::expanded_length` meets its contract. The invariant: the sum so far and the length from here on come to that of all Simple TLVs, and the sum stays small.
use Prim.Native.Nat.{◌+◌, ◌-◌}
use mathlib.Core.Path.{◌≡◌}
use lib.ListN.{length}
use Rattle.rules.specs.Tlvs.{tlvs}
use Rattle.rules.specs.Command.{expanded}
use Rattle.variable.specs.View.{viewed}
use Rattle.command.proofs.SentLaws.{Summed}
use Rattle.command.proofs.expanded_length.Given as goal

abbrev pub invariant-loop-at : goal.invariant-loop-at
invariant-loop-at l = Summed l.from l.at l.sum × (l.sum + length (expanded (viewed l.view) (tlvs 0 l.view.page.now l.at l.end)) ≡ length (expanded (viewed l.view) (tlvs 0 l.view.page.now l.from l.end)))

abbrev pub decreases-loop-at : goal.decreases-loop-at
decreases-loop-at l = l.end - l.at
