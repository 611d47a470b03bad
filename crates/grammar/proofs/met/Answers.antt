-- `met` is the test of the rules.
use borrow.Author.Rules.{rules}
use Rattle.grammar.proofs.RowLaws.{met_laws}
use Rattle.grammar.proofs.met.Goals.{then-need-eq1-via-then-need-eq1, then-need-eq1-via-else-need-eq1+then-cell_of-need}
use Rattle.grammar.proofs.met.Goals as goal

pub returns-then-need-eq1 : goal.returns-then-need-eq1
returns-then-need-eq1 c =
    elim c.then-need-eq1.branch [
      | then-need-eq1-via-then-need-eq1 w ↦ search (rules, met_laws)
      | then-need-eq1-via-else-need-eq1+then-cell_of-need w ↦ search (rules, met_laws)
    ]
