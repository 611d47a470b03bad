-- The type of a value is the same on the part that a card shows.
-- Assumes nothing.
use Prim.Native.Nat.{ℕ}
use mathlib.Core.Path.{◌≡◌, refl}
use Rattle.rules.specs.Bytes.{part}
use Rattle.rules.specs.Pieces.{Pieces, full, cut, text, variable, named}
use Rattle.rules.specs.Card.{Card}
use Rattle.rules.specs.Value.{shared_with, shared, type_for}
use Rattle.variable.specs.View.{seen, bare}
use Rattle.variable.proofs.Bare.{bare_read}

bare_with : (t : ℕ) (c : Card) (ps : Pieces) → shared_with t (bare c) ps ≡ shared_with t c ps
unfolding shared_with
bare_with t c full = refl
bare_with t c cut = refl
bare_with t c (text from to rest) = bare_with t c rest
bare_with t c (variable n rest) = rw (bare_read c n, bare_with t c rest)

bare_shared : (c : Card) (ps : Pieces) → shared (bare c) ps ≡ shared c ps
unfolding shared
bare_shared c full = refl
bare_shared c cut = refl
bare_shared c (text from to rest) = bare_shared c rest
bare_shared c (variable n rest) = rw (bare_read c n) (bare_with _ c rest)

pub bare_type : (c : Card) (tag start stop : ℕ) → type_for (bare c) tag start stop ≡ type_for c tag start stop
unfolding type_for bare seen
bare_type c tag start stop = rw (bare_shared c (named (part c.run.page start stop)))
