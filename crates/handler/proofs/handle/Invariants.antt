-- `handler::handle` meets its contract. The invariants: what is left to be searched, of this list and of those behind it, gives the answer.
use Prim.Native.Nat.{◌-◌}
use mathlib.Core.Path.{◌≡◌}
use Rattle.rules.specs.Tlvs.{tlvs}
use Rattle.rules.specs.Handler.{or_else, handle}
use Rattle.handler.proofs.Lists.{last_to, behind, onward}
use Rattle.handler.proofs.handle.Given as goal

abbrev pub invariant-loop-i : goal.invariant-loop-i
invariant-loop-i l = or_else (last_to l.s l.g (tlvs 0 l.s l.row.from l.row.end) l.i) (behind l.s l.g l.list) ≡ handle l.s l.k l.g

abbrev pub decreases-loop-i : goal.decreases-loop-i
decreases-loop-i l = l.i

abbrev pub invariant-lists : goal.invariant-lists
invariant-lists l = onward l.s l.k l.g l.list ≡ handle l.s l.k l.g

abbrev pub decreases-lists : goal.decreases-lists
decreases-lists l = 2 - l.list
