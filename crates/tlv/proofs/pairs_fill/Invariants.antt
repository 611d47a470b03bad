-- `tlv::pairs_fill` meets its contract. The invariant: the pairs from here on fill the value where those from the start do.
use Prim.Native.Nat.{◌-◌}
use mathlib.Core.Path.{◌≡◌}
use Rattle.rules.specs.Pieces.{pieces, filled}
use Rattle.tlv.proofs.pairs_fill.Given as goal

abbrev pub invariant-loop-at : goal.invariant-loop-at
invariant-loop-at l = filled (pieces l.substituted l.s l.at l.end) ≡ filled (pieces l.substituted l.s l.from l.end)

abbrev pub decreases-loop-at : goal.decreases-loop-at
decreases-loop-at l = l.end - l.at
