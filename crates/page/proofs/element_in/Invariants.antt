-- `page::element_in` meets its contract. The invariant: the element that is left to be found, from here on, is the one from the start.
use Prim.Native.Nat.{◌-◌}
use mathlib.Core.Bool.{false}
use mathlib.Core.Path.{◌≡◌}
use Rattle.rules.specs.Pieces.{pieces}
use Rattle.rules.specs.Page.{element_in}
use Rattle.page.proofs.element_in.Given as goal

abbrev pub invariant-loop-at : goal.invariant-loop-at
invariant-loop-at l = element_in l.left (pieces false l.s l.at l.end) ≡ element_in l.n (pieces false l.s l.from l.end)

abbrev pub decreases-loop-at : goal.decreases-loop-at
decreases-loop-at l = l.end - l.at
