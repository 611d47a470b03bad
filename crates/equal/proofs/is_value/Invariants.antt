-- `equal::is_value` meets its contract. The invariant: the rest of the value and the bytes from here on are the same where the whole is.
use Prim.Native.Nat.{◌-◌, ◌≤◌}
use mathlib.Core.Path.{◌≡◌}
use lib.ListN.{length, drop}
use Rattle.rules.specs.Bytes.{same}
use Rattle.rules.specs.Value.{joined}
use Rattle.variable.specs.View.{viewed}
use Rattle.piece.specs.Piece.{pieces_from}
use Rattle.equal.proofs.is_value.Given as goal

abbrev pub invariant-loop-at : goal.invariant-loop-at
invariant-loop-at l = (l.met ≤ length l.bytes) × (same (joined (viewed l.view) (pieces_from l.list l.view.page.now l.at l.end)) (drop l.met l.bytes) ≡ same (joined (viewed l.view) (pieces_from l.list l.view.page.now l.from l.end)) l.bytes)

abbrev pub decreases-loop-at : goal.decreases-loop-at
decreases-loop-at l = l.end - l.at
