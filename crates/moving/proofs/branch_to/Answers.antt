-- `moving::branch_to` meets its contract.
use Rattle.moving.proofs.MoveLaws.{branch_unit, branch_lacking, branch_other}
use borrow.Author.Rules.{rules}
use Rattle.moving.proofs.branch_to.Goals as goal

pub returns-in-Unit : goal.returns-in-Unit
returns-in-Unit c card is ok short = search (rules, branch_unit _ card is ok)

pub returns-in-Lacking : goal.returns-in-Lacking
returns-in-Lacking c card is ok short = search (rules, branch_lacking _ card is ok)

pub returns-in-Other : goal.returns-in-Other
returns-in-Other c card is ok short = search (rules, branch_other _ card is ok)
