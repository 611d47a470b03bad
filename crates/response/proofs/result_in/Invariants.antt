-- `response::result_in` meets its contract. The invariant: the result from here on is the one from the start.
use Prim.Native.Nat.{◌-◌}
use mathlib.Core.Path.{◌≡◌}
use Rattle.rules.specs.Tlvs.{tlvs}
use Rattle.rules.specs.Command.{result_in}
use Rattle.response.proofs.result_in.Given as goal

abbrev pub invariant-loop-tlv : goal.invariant-loop-tlv
invariant-loop-tlv l = result_in l.r (tlvs 0 l.r l.at l.end) ≡ result_in l.r (tlvs 0 l.r 0 l.end)

abbrev pub decreases-loop-tlv : goal.decreases-loop-tlv
decreases-loop-tlv l = l.end - l.at
