-- `row_clean` answers true only where no class from 3 on finds a fault in the page's parts. The loop's invariant: what is left of them comes to what
-- they come to, the units and modifiers before are counted, and a name whose slot is not seen is no anchor before.
use mathlib.Core.Bool.{not}
use mathlib.Core.Path.{ap}
use native.Mathlib.Omega.{arith}
use borrow.Author.Rules.{rules}
use Rattle.tlv.proofs.Bounds.{next_laws, next_within, head_tlv}
use Rattle.faultless.proofs.CleanLaws.{agreed_in}
use Rattle.faultless.proofs.SlotLaws.{unseen_on}
use Rattle.faultless.proofs.PageLaws.{page_row_laws, r_over, r_over_units, r_over_modifiers, r_into, r_into_units, r_into_modifiers}
use mathlib.Core.Path.{sym}
use Rattle.faultless.proofs.row_clean.Goals as goal

pub lacks-requires : goal.lacks-requires
lacks-requires c = search (rules, next_laws, page_row_laws)

pub count_tag-own-requires : goal.count_tag-own-requires
count_tag-own-requires c = search (rules, next_laws, page_row_laws)

pub loop-at-init : goal.loop-at-init
loop-at-init c = search (rules, next_laws, page_row_laws)

pub head_at-requires : goal.head_at-requires
head_at-requires c = search (rules, next_laws, page_row_laws)

pub anchor_slot-slot-requires : goal.anchor_slot-slot-requires
anchor_slot-slot-requires c = search (rules, next_laws, page_row_laws)

pub clean_look-requires : goal.clean_look-requires
clean_look-requires c = search (rules, next_laws, page_row_laws)

pub part_clean-requires : goal.part_clean-requires
part_clean-requires c = let b = head_tlv _ _ _ (sym c.in-Some.ensures) in
    let d = agreed_in _ _ _ _ _ _ _ _ _ _ _ _ _ _ c.clean_look.ensures _ _ c.in-Into.is b.1 in
    omega arith

pub loop-at-smaller-in-Over : goal.loop-at-smaller-in-Over
loop-at-smaller-in-Over c = search (rules, next_laws, page_row_laws)

pub loop-at-preserved-in-Over : goal.loop-at-preserved-in-Over
loop-at-preserved-in-Over c = (
  next_within _ _ _ _ c.head_at.ensures _ c.in-Some.is _ (omega arith),
  r_over _ _ _ _ _ c.loop-at.invariant.1 c.loop-at-test.true _ c.head_at.ensures _ c.in-Some.is _ _ c.loop-at.invariant.2 c.loop-at.invariant.3 _ c.cell_of-cell.ensures _ c.clean_look.ensures c.in-Over.is,
  r_over_units _ _ _ _ _ c.loop-at.invariant.1 c.loop-at-test.true _ c.head_at.ensures _ c.in-Some.is _ _ c.loop-at.invariant.2 c.loop-at.invariant.3 _ c.cell_of-cell.ensures _ c.clean_look.ensures c.in-Over.is _ c.left_after-fewer_units.ensures,
  r_over_modifiers _ _ _ _ _ c.loop-at.invariant.1 c.loop-at-test.true _ c.head_at.ensures _ c.in-Some.is _ _ c.loop-at.invariant.2 c.loop-at.invariant.3 _ c.cell_of-cell.ensures _ c.clean_look.ensures c.in-Over.is _ c.left_after-fewer_modifiers.ensures,
  c.loop-at.invariant.4,
  c.loop-at.invariant.5,
  unseen_on _ _ _ _ _ c.loop-at.invariant.6 c.loop-at-test.true _ c.head_at.ensures _ c.in-Some.is _ c.anchor_slot-slot.ensures.0 c.anchor_slot-slot.ensures.1,
)

pub loop-at-smaller : goal.loop-at-smaller
loop-at-smaller c = search (rules, next_laws, page_row_laws)

pub loop-at-preserved : goal.loop-at-preserved
loop-at-preserved c = (
  next_within _ _ _ _ c.head_at.ensures _ c.in-Some.is _ (omega arith),
  r_into _ _ _ _ _ c.loop-at.invariant.1 c.loop-at-test.true _ c.head_at.ensures _ c.in-Some.is _ _ c.loop-at.invariant.2 c.loop-at.invariant.3 _ c.cell_of-cell.ensures _ c.clean_look.ensures _ _ c.in-Into.is _ _ c.loop-at.invariant.4 c.loop-at.invariant.5 _ c.loop-at.invariant.6 _ c.anchor_slot-slot.ensures.0 _ c.part_clean.ensures (ap not c.if-not-part_clean.false),
  r_into_units _ _ _ _ _ c.loop-at.invariant.1 c.loop-at-test.true _ c.head_at.ensures _ c.in-Some.is _ _ c.loop-at.invariant.2 c.loop-at.invariant.3 _ c.cell_of-cell.ensures _ c.clean_look.ensures _ _ c.in-Into.is _ c.left_after-fewer_units.ensures,
  r_into_modifiers _ _ _ _ _ c.loop-at.invariant.1 c.loop-at-test.true _ c.head_at.ensures _ c.in-Some.is _ _ c.loop-at.invariant.2 c.loop-at.invariant.3 _ c.cell_of-cell.ensures _ c.clean_look.ensures _ _ c.in-Into.is _ c.left_after-fewer_modifiers.ensures,
  c.loop-at.invariant.4,
  c.loop-at.invariant.5,
  unseen_on _ _ _ _ _ c.loop-at.invariant.6 c.loop-at-test.true _ c.head_at.ensures _ c.in-Some.is _ c.anchor_slot-slot.ensures.0 c.anchor_slot-slot.ensures.1,
)

pub returns : goal.returns
returns c = search (rules, next_laws, page_row_laws)
