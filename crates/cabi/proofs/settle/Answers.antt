-- `cabi::settle` meets its contract.
use Rattle.cabi.proofs.ServeLaws.{settle_laws}
use borrow.Author.Rules.{rules}
use Rattle.cabi.proofs.settle.Goals as goal

pub returns-then-not-changed : goal.returns-then-not-changed
returns-then-not-changed c = search (rules, settle_laws)

pub returns : goal.returns
returns c = search (rules, settle_laws)
