-- `cabi::usat_read` meets its contract.
use Rattle.cabi.proofs.ServeLaws.{misfit_laws, serve_laws}
use Rattle.cabi.proofs.FitLaws.{fit_laws}
use borrow.Author.Rules.{rules}
use Rattle.cabi.proofs.usat_read.Goals as goal

pub returns-then-state-ne-SIZE : goal.returns-then-state-ne-SIZE
returns-then-state-ne-SIZE c = search (rules, misfit_laws, serve_laws, fit_laws)

pub returns-then-value-lt255 : goal.returns-then-value-lt255
returns-then-value-lt255 c = search (rules, misfit_laws, serve_laws, fit_laws)

pub pack_shown-requires : goal.pack_shown-requires
pack_shown-requires c = search (rules, misfit_laws, serve_laws, fit_laws)

pub returns-then-shown-eq0 : goal.returns-then-shown-eq0
returns-then-shown-eq0 c = search (rules, misfit_laws, serve_laws, fit_laws)

pub pack_shown-requires-2 : goal.pack_shown-requires-2
pack_shown-requires-2 c = search (rules, misfit_laws, serve_laws, fit_laws)

pub returns : goal.returns
returns c = search (rules, misfit_laws, serve_laws, fit_laws)
