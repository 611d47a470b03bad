-- `handler::action_in` meets its contract. The invariant: the first action from here on is the first from the start.
use Prim.Native.Nat.{◌-◌}
use mathlib.Core.Path.{◌≡◌}
use Rattle.rules.specs.Tlvs.{tlvs}
use Rattle.rules.specs.Handler.{action_in}
use Rattle.handler.proofs.action_in.Given as goal

abbrev pub invariant-loop-tlv : goal.invariant-loop-tlv
invariant-loop-tlv l = action_in l.s (tlvs 0 l.s l.at l.end) ≡ action_in l.s (tlvs 0 l.s l.from l.end)

abbrev pub decreases-loop-tlv : goal.decreases-loop-tlv
decreases-loop-tlv l = l.end - l.at
