-- `taken` is the test of the rules.
use borrow.Author.Rules.{rules}
use Rattle.forms.proofs.NameLaws.{row_laws, taken_laws}
use Rattle.forms.proofs.taken.Goals.{else-tlv-eq10-via-then-tlv-eq10+else-part_is, else-tlv-eq10-via-else-tlv-eq10}
use Rattle.forms.proofs.taken.Goals as goal

pub loop-tlv-preserved : goal.loop-tlv-preserved
loop-tlv-preserved c =
    elim c.else-tlv-eq10.branch [
      | else-tlv-eq10-via-then-tlv-eq10+else-part_is w ↦ search (rules, row_laws, taken_laws)
      | else-tlv-eq10-via-else-tlv-eq10 w ↦ search (rules, row_laws, taken_laws)
    ]
