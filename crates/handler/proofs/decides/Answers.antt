-- `handler::decides` meets its contract.
use Rattle.leaf.proofs.Cases.{told_as}
use Rattle.handler.specs.Search.{decides}
use borrow.Author.Rules.{rules}
use Rattle.handler.proofs.decides.Goals as goal

pub returns-in-Pass : goal.returns-in-Pass
unfolding decides
returns-in-Pass c = search (rules, told_as decides)

pub returns-in-Next : goal.returns-in-Next
unfolding decides
returns-in-Next c = search (rules, told_as decides)

pub returns-in-Quit : goal.returns-in-Quit
unfolding decides
returns-in-Quit c = search (rules, told_as decides)

pub returns-in-Back : goal.returns-in-Back
unfolding decides
returns-in-Back c = search (rules, told_as decides)

pub returns-in-Retry : goal.returns-in-Retry
unfolding decides
returns-in-Retry c = search (rules, told_as decides)

pub returns-in-Go : goal.returns-in-Go
unfolding decides
returns-in-Go c = search (rules, told_as decides)
