-- `value::join_from` meets its contract. The invariant: the rest, poured from here on, makes of out what the whole value would, and there is room for it.
use Prim.Native.Nat.{◌+◌, ◌-◌, ◌≤◌}
use mathlib.Core.Path.{◌≡◌}
use lib.ListN.{length}
use Rattle.rules.specs.Value.{joined}
use Rattle.pour.specs.Pour.{poured}
use Rattle.variable.specs.View.{viewed}
use Rattle.piece.specs.Piece.{pieces_from}
use Rattle.value.proofs.join_from.Given as goal

abbrev pub invariant-loop-at : goal.invariant-loop-at
invariant-loop-at l = (length l.out ≡ length l.initial.out) × (poured l.out l.n (joined (viewed l.view) (pieces_from l.list l.view.page.now l.at l.end)) ≡ poured l.initial.out l.place (joined (viewed l.view) (pieces_from l.list l.view.page.now l.from l.end))) × (l.n + length (joined (viewed l.view) (pieces_from l.list l.view.page.now l.at l.end)) ≤ length l.out)

abbrev pub decreases-loop-at : goal.decreases-loop-at
decreases-loop-at l = l.end - l.at
