-- `page::element` meets its contract.
use borrow.Author.Rules.{rules}
use Rattle.page.proofs.Parts.{element_laws}
use Rattle.page.proofs.element.Goals as goal

pub returns : goal.returns
returns c = search (rules, element_laws, c.in_ok-span.was)
