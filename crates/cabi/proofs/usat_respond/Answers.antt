-- `cabi::usat_respond` meets its contract.
use Rattle.cabi.proofs.ServeLaws.{misfit_laws, serve_laws}
use Rattle.cabi.proofs.FitLaws.{fit_laws}
use borrow.Author.Rules.{rules}
use Rattle.cabi.proofs.usat_respond.Goals as goal

pub returns-then-state-ne-SIZE : goal.returns-then-state-ne-SIZE
returns-then-state-ne-SIZE c = search (rules, misfit_laws, serve_laws, fit_laws)

pub pack_responded-requires : goal.pack_responded-requires
pack_responded-requires c = search (rules, misfit_laws, serve_laws, fit_laws)

pub returns : goal.returns
returns c = search (rules, misfit_laws, serve_laws, fit_laws)
