-- `value::complaint_from` meets its contract. The invariant: the worst complaint so far and those from here on come to that of the whole value.
use Prim.Native.Nat.{◌-◌}
use mathlib.Core.Path.{◌≡◌}
use Rattle.rules.specs.Store.{worse}
use Rattle.rules.specs.Value.{complaint}
use Rattle.variable.specs.View.{viewed}
use Rattle.piece.specs.Piece.{pieces_from}
use Rattle.value.proofs.complaint_from.Given as goal

abbrev pub invariant-loop-at : goal.invariant-loop-at
invariant-loop-at l = worse l.worst (complaint (viewed l.view) l.known (pieces_from l.list l.view.page.now l.at l.end)) ≡ complaint (viewed l.view) l.known (pieces_from l.list l.view.page.now l.from l.end)

abbrev pub decreases-loop-at : goal.decreases-loop-at
decreases-loop-at l = l.end - l.at
