-- The value and the complaints of a card are those of the part that it shows.
-- Assumes nothing.
use Prim.Native.Nat.{ℕ}
use mathlib.Core.List.{List, ◌++◌}
use mathlib.Core.Path.{◌≡◌, refl, ap}
use Rattle.rules.specs.Bytes.{part}
use Rattle.rules.specs.Pieces.{Pieces, full, cut, text, variable}
use Rattle.rules.specs.Card.{Card}
use Rattle.rules.specs.Value.{complaint, joined}
use Rattle.variable.specs.View.{seen, bare}
use Rattle.variable.proofs.Bare.{bare_read, bare_reading}

pub bare_complaint : (c : Card) (known : List ℕ) (ps : Pieces) → complaint (bare c) known ps ≡ complaint c known ps
unfolding complaint
bare_complaint c known full = refl
bare_complaint c known cut = refl
bare_complaint c known (text from to rest) = bare_complaint c known rest
bare_complaint c known (variable n rest) = rw (bare_reading c n, bare_complaint c known rest)

pub bare_joined : (c : Card) (ps : Pieces) → joined (bare c) ps ≡ joined c ps
unfolding joined bare seen
bare_joined c full = refl
bare_joined c cut = refl
bare_joined c (text from to rest) = ap (λ (b : List ℕ). part c.run.page from to ++ b) (bare_joined c rest)
bare_joined c (variable n rest) = rw (bare_read c n, bare_joined c rest)
