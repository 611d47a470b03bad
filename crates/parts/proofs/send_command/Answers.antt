-- `parts::send_command` meets its contract.
use Rattle.parts.proofs.PartLaws.{command_length_lem, command_held, command_out, not_long}
use Rattle.sending.proofs.SendLaws.{command_fits, command_bounds}
use Rattle.storing.proofs.StoreLaws.{bound_laws}
use native.Mathlib.Omega.{arith}
use Prim.Native.Nat.{◌≤◌}
use mathlib.Core.Path.{refl}
use lib.ListN.{length}
use borrow.Author.Rules.{rules}
use Rattle.parts.proofs.send_command.Goals as goal

pub command_into-n-requires : goal.command_into-n-requires
command_into-n-requires c = search (rules, command_bounds, bound_laws)

pub returns-then-n-gt255-clause-value : goal.returns-then-n-gt255-clause-value
returns-then-n-gt255-clause-value c = command_length_lem _ _ _ _ _ c.page_of.ensures.0 _ _ _ _ c.command_into-n.ensures.0

pub returns-then-n-gt255-clause-hand_after : goal.returns-then-n-gt255-clause-hand_after
returns-then-n-gt255-clause-hand_after c = (λ l. not_long _ l c.if-n-gt255.true)

pub returns-then-n-gt255-clause-hand_unchanged : goal.returns-then-n-gt255-clause-hand_unchanged
returns-then-n-gt255-clause-hand_unchanged c = (λ _. (refl, refl))

pub slice_bounds-part_of-end : goal.slice_bounds-part_of-end
slice_bounds-part_of-end c = search (rules, command_bounds, bound_laws)

pub hold-requires : goal.hold-requires
hold-requires c = command_fits _ _ _ (omega arith) c.part_of-text.ensures

pub pour-requires : goal.pour-requires
pour-requires c = let short : length c.part_of-text.result.now ≤ 255 = command_fits _ _ _ (omega arith) c.part_of-text.ensures in
    omega arith

pub returns-clause-value : goal.returns-clause-value
returns-clause-value c = command_length_lem _ _ _ _ _ c.page_of.ensures.0 _ _ _ _ c.command_into-n.ensures.0

pub returns-clause-hand_after : goal.returns-clause-hand_after
returns-clause-hand_after c = (λ _. (command_held _ _ _ _ _ c.page_of.ensures.0 _ _ _ _ c.command_into-n.ensures.0 c.if-n-gt255.false _ _ _ c.command_into-n.ensures.1 c.part_of-text.ensures _ c.hold.ensures, command_out _ _ _ _ _ c.page_of.ensures.0 _ _ _ _ c.command_into-n.ensures.0 c.if-n-gt255.false _ _ _ c.command_into-n.ensures.1 c.part_of-text.ensures _ _ c.pour.ensures))

pub returns-clause-hand_unchanged : goal.returns-clause-hand_unchanged
returns-clause-hand_unchanged c = (λ l. not_long _ c.if-n-gt255.false l)
