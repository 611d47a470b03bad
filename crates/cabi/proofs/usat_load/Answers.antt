-- `cabi::usat_load` meets its contract.
use Rattle.cabi.proofs.ServeLaws.{misfit_laws, serve_laws}
use Rattle.cabi.proofs.FitLaws.{fit_laws}
use borrow.Author.Rules.{rules}
use Rattle.cabi.proofs.usat_load.Goals as goal

pub returns-then-state-ne-SIZE : goal.returns-then-state-ne-SIZE
returns-then-state-ne-SIZE c = search (rules, misfit_laws, serve_laws, fit_laws)

pub pack_loaded-answer-requires : goal.pack_loaded-answer-requires
pack_loaded-answer-requires c = search (rules, misfit_laws, serve_laws, fit_laws)

pub returns : goal.returns
returns c = search (rules, misfit_laws, serve_laws, fit_laws)
