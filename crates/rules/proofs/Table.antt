-- Cases 1 to 12 of document 01: the definitions give the wanted answers, by one computation over the whole table.
-- Assumes nothing.
use mathlib.Core.Path.{◌≡◌, refl}
use mathlib.Core.List.{List, [], ◌∷◌}
use Rattle.rules.specs.Card.{created}
use Rattle.rules.specs.Calls.{Answer, answers}
use Rattle.rules.specs.Cases.{Case, table}
use Rattle.rules.specs.Open.{opened}

pub given : List Case → List (List Answer)
given [] = []
given (k ∷ ks) = answers k.calls created ∷ given ks

pub wanted : List Case → List (List Answer)
wanted [] = []
wanted (k ∷ ks) = k.wanted ∷ wanted ks

pub cases_right : given table ≡ wanted table
unfolding opened given wanted
cases_right = refl
