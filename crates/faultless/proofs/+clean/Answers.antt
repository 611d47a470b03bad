-- `clean` answers true only where no class from 3 on finds a fault. It calls itself with fewer levels left. The loop's invariant: what is left of the
-- row comes to what the whole row comes to, and the modifiers before it are counted.
use borrow.Author.Rules.{rules}
use native.Mathlib.Omega.{arith}
use Rattle.tlv.proofs.Bounds.{head_tlv}
use Rattle.classes.proofs.WalkLaws.{t_within}
use Rattle.faultless.proofs.CleanLaws.{agreed_in, clean_laws, c_into, c_into_count}
use mathlib.Core.Bool.{not}
use mathlib.Core.Path.{ap, refl, sym}
use Rattle.faultless.proofs.+clean.Goals as goal

pub returns-then-left-eq0 : goal.returns-then-left-eq0
returns-then-left-eq0 t c = search (rules, clean_laws)

pub lacks-requires : goal.lacks-requires
lacks-requires t c = search (rules, clean_laws)

pub loop-at-init : goal.loop-at-init
loop-at-init t c = search (rules, clean_laws)

pub head_at-requires : goal.head_at-requires
head_at-requires t c = search (rules, clean_laws)

pub clean_look-requires : goal.clean_look-requires
clean_look-requires t c = let b = head_tlv _ _ _ (sym c.in-Some.ensures) in
    omega arith

pub clean-requires : goal.clean-requires
clean-requires t c = let b = head_tlv _ _ _ (sym c.in-Some.ensures) in
    let d = agreed_in _ _ _ _ _ _ _ _ _ _ _ _ _ _ c.in-Into.ensures _ _ refl b.1 in
    omega arith

pub loop-at-smaller-in-Over : goal.loop-at-smaller-in-Over
loop-at-smaller-in-Over t c = search (rules, clean_laws)

pub loop-at-preserved-in-Over : goal.loop-at-preserved-in-Over
loop-at-preserved-in-Over t c = search (rules, clean_laws)

pub loop-at-smaller : goal.loop-at-smaller
loop-at-smaller t c = search (rules, clean_laws)

pub loop-at-preserved : goal.loop-at-preserved
loop-at-preserved t c = (
  t_within _ _ _ _ _ c.in-Some.ensures _ refl,
  c_into _ _ _ _ _ _ _ _ _ _ _ c.loop-at.invariant.1 c.loop-at.invariant.2 c.loop-at-test.true _ c.in-Some.ensures _ refl _ c.cell_of-cell.ensures _ c.in-Into.ensures
      _ _ refl _ c.clean.ensures (ap not c.if-not-clean.false),
  c_into_count _ _ _ _ _ _ _ _ _ _ _ c.loop-at.invariant.1 c.loop-at.invariant.2 c.loop-at-test.true _ c.in-Some.ensures _ refl _ c.cell_of-cell.ensures _ c.in-Into.ensures
      _ _ refl _ c.left_after-fewer.ensures,
)

pub returns : goal.returns
returns t c = search (rules, clean_laws)
