-- `page_clean` answers true only where no class finds a fault in a page.
use native.Mathlib.Omega.{arith}
use Rattle.tlv.proofs.Bounds.{head_tlv}
use Rattle.faultless.proofs.CleanLaws.{agreed_in}
use Rattle.faultless.proofs.PageLaws.{whole_clean}
use mathlib.Core.Path.{sym}
use Rattle.faultless.proofs.page_clean.Goals as goal

pub clean_look-look-requires : goal.clean_look-look-requires
clean_look-look-requires c = let b = head_tlv _ _ _ (sym c.in-Some.ensures) in
    omega arith

pub row_clean-requires : goal.row_clean-requires
row_clean-requires c = let b = head_tlv _ _ _ (sym c.in-Some.ensures) in
    let d = agreed_in _ _ _ _ _ _ _ _ _ _ _ _ _ _ c.clean_look-look.ensures _ _ c.in-Into.is (omega arith) in
    omega arith

pub returns-then-stop-row : goal.returns-then-stop-row
returns-then-stop-row c = whole_clean _ _ c.if-stop-s.false _ c.lacks.ensures c.if-lacks.false _ c.head_at.ensures _ c.in-Some.is c.if-tlv-stop.false _ c.cell_of-cell.ensures
    _ c.clean_look-look.ensures _ _ c.in-Into.is c.if-stop-row.true.0 _ c.page_row-row.ensures c.if-stop-row.true.1 c.if-stop-row.true.2 _ c.row_clean.ensures
