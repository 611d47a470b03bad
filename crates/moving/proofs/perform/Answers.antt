-- `moving::perform` meets its contract.
use Rattle.moving.proofs.MoveLaws.{perform_end, perform_next, perform_back, perform_go}
use borrow.Author.Rules.{rules}
use Rattle.moving.proofs.perform.Goals as goal

pub returns-in-Pass : goal.returns-in-Pass
returns-in-Pass c card is ok fine bound = perform_end _ card is ok _ _ _ c.in-Pass.is c.end.ensures

pub returns-in-Next : goal.returns-in-Next
returns-in-Next c card is ok fine bound = search (rules, perform_next _ card is ok)

pub returns-in-Back : goal.returns-in-Back
returns-in-Back c card is ok fine bound = search (rules, perform_back _ card is ok)

pub returns-in-Go : goal.returns-in-Go
returns-in-Go c card is ok fine bound = search (rules, perform_go _ card is ok)
