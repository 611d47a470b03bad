-- `tlv::attributes_in` meets its contract. The invariant: attributes end, from here on, where they do from the start.
use Prim.Native.Nat.{◌-◌}
use mathlib.Core.Path.{◌≡◌}
use Rattle.rules.specs.Shape.{attributes_in}
use Rattle.tlv.proofs.attributes_in.Given as goal

abbrev pub invariant-loop-at : goal.invariant-loop-at
invariant-loop-at l = attributes_in (l.end - l.at) l.s l.at ≡ attributes_in (l.end - l.from) l.s l.from
