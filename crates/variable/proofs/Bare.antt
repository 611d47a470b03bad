-- What is read of a card is what is read of the part that it shows.
-- Assumes nothing.
use Prim.Native.Nat.{ℕ}
use mathlib.Core.Path.{◌≡◌, refl}
use Rattle.rules.specs.Card.{Card}
use Rattle.rules.specs.Store.{Area, environmental, permanently, temporarily, string, area, read_in, read, reading}
use Rattle.variable.specs.View.{seen, bare}

bare_in : (a : Area) (c : Card) (n : ℕ) → read_in a (bare c) n ≡ read_in a c n
unfolding read_in bare seen
bare_in environmental c n = refl
bare_in permanently c n = refl
bare_in temporarily c n = refl
bare_in string c n = refl

pub bare_read : (c : Card) (n : ℕ) → read (bare c) n ≡ read c n
unfolding read
bare_read c n = bare_in (area n) c n

pub bare_reading : (c : Card) (n : ℕ) → reading (bare c) n ≡ reading c n
unfolding reading bare seen
bare_reading c n = rw (bare_read c n)
