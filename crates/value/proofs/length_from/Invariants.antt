-- `value::length_from` meets its contract. The invariant: the sum so far and the length from here on come to that of the whole value, and the sum stays small.
use Prim.Native.Nat.{◌+◌, ◌-◌}
use mathlib.Core.Path.{◌≡◌}
use lib.ListN.{length}
use Rattle.rules.specs.Value.{joined}
use Rattle.variable.specs.View.{viewed}
use Rattle.piece.specs.Piece.{pieces_from}
use Rattle.value.proofs.LengthLaws.{Counted}
use Rattle.value.proofs.length_from.Given as goal

abbrev pub invariant-loop-at : goal.invariant-loop-at
invariant-loop-at l = Counted l.from l.at l.sum × (l.sum + length (joined (viewed l.view) (pieces_from l.list l.view.page.now l.at l.end)) ≡ length (joined (viewed l.view) (pieces_from l.list l.view.page.now l.from l.end)))

abbrev pub decreases-loop-at : goal.decreases-loop-at
decreases-loop-at l = l.end - l.at
