-- What a lent array holds after bytes that may be too long for it: they stand at its start, or it is as it was.
use Rattle.std.specs.Prelude.{ℕ, cond, List, length, ltb}
use Rattle.rules.specs.Store.{longest}
use Rattle.pour.specs.Pour.{poured}

unfoldable pub into : List ℕ → List ℕ → List ℕ
into out b = cond (ltb longest (length b)) out (poured out 0 b)
