-- `walk` finds the first fault of the rules. It calls itself with fewer levels left. The loop's invariant: what is left of the row comes to what the
-- whole row comes to.
use native.Mathlib.Omega.{arith}
use borrow.Author.Rules.{rules}
use Rattle.tlv.proofs.Bounds.{head_tlv}
use Rattle.classes.proofs.LookLaws.{look_into}
use Rattle.classes.proofs.WalkLaws.{walk_laws, t_within, w_fine}
use mathlib.Core.Path.{refl, sym}
use Rattle.classes.proofs.+walk.Goals as goal

pub look_at-requires : goal.look_at-requires
look_at-requires t c =
    let b = head_tlv _ _ _ (sym c.in-Some.ensures) in
    record { at_in_bounds = omega arith; stop_in_bounds = omega arith; start_le_stop = omega arith }

pub walk-requires : goal.walk-requires
walk-requires t c = let b = head_tlv _ _ _ (sym c.in-Some.ensures) in
    let d = look_into _ _ _ _ _ _ _ _ _ _ b.1 (sym c.in-Into.ensures) in
    omega arith

pub loop-at-preserved : goal.loop-at-preserved
loop-at-preserved t c = (
  t_within _ _ _ _ _ c.in-Some.ensures _ refl,
  w_fine _ _ _ _ _ _ _ _ _ _ c.loop-at.invariant.1 c.loop-at-test.true _ c.in-Some.ensures _ refl _ c.cell_for-cell.ensures _ c.in-Into.ensures
      _ _ refl _ c.in_default-walk.ensures refl,
)

pub returns-in-Some-walk : goal.returns-in-Some-walk
returns-in-Some-walk t c = search (rules, walk_laws)
