-- `response::fills` meets its contract. The invariant: the TLVs from here on fill the response where those from the start do.
use Prim.Native.Nat.{◌-◌, ◌≤◌}
use mathlib.Core.Path.{◌≡◌}
use Rattle.rules.specs.Tlvs.{tlvs}
use Rattle.rules.specs.Command.{fills}
use Rattle.response.proofs.fills.Given as goal

abbrev pub invariant-loop-tlv : goal.invariant-loop-tlv
invariant-loop-tlv l = (l.at ≤ l.end) × (fills (tlvs 0 l.r l.at l.end) ≡ fills (tlvs 0 l.r 0 l.end))

abbrev pub decreases-loop-tlv : goal.decreases-loop-tlv
decreases-loop-tlv l = l.end - l.at
