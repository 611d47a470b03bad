-- `fields_tidy` meets its contract: each way that the tests go.
use Rattle.records.proofs.FineLaws.{fine_laws}
use borrow.Author.Rules.{rules}
use Rattle.records.proofs.fields_tidy.Goals as goal
use Rattle.records.proofs.fields_tidy.Goals.{then-n-le16, else-n-le16, then-all_zero, else-all_zero}

pub returns-then-all_zero-2 : goal.returns-then-all_zero-2
returns-then-all_zero-2 c = search (rules, fine_laws)

pub returns-else-all_zero-2 : goal.returns-else-all_zero-2
returns-else-all_zero-2 c =
    elim c.if-all_zero.branch [
      | then-all_zero w ↦ elim c.if-n-le16.branch [ then-n-le16 v ↦ search (rules, fine_laws) | else-n-le16 v ↦ search (rules, fine_laws) ]
      | else-all_zero w ↦ elim c.if-n-le16.branch [ then-n-le16 v ↦ search (rules, fine_laws) | else-n-le16 v ↦ search (rules, fine_laws) ]
    ]
