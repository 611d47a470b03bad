-- `cabi::usat_end` meets its contract.
use Rattle.cabi.proofs.ServeLaws.{misfit_laws, serve_laws}
use borrow.Author.Rules.{rules}
use Rattle.cabi.proofs.usat_end.Goals as goal

pub returns-then-state-ne-SIZE : goal.returns-then-state-ne-SIZE
returns-then-state-ne-SIZE c = search (rules, misfit_laws, serve_laws)

pub returns : goal.returns
returns c = search (rules, misfit_laws, serve_laws)
