-- The code's table of sizes, and its rule: every entry is what the rules say, by one computed test.
-- Assumes nothing.
use Prim.Native.Nat.{ℕ, ◌≤◌, ◌<◌}
use mathlib.Core.List.{List}
use mathlib.Core.Path.{◌≡◌, sym, ◌∙◌}
use lib.Dec.{eqb, eqb→eq}
use lib.ListN.{get_or, get_or-eq_default}
use Rattle.rules.specs.Bytes.{among, hex_to, hex}
use Rattle.rules.specs.Shape.{number_in}
use Rattle.rules.specs.Forms.{sizes, size_of}
use Rattle.grammar.proofs.Every.{every_at}

unfoldable pub limits : List ℕ
limits =
    hex 16 0x00006051100050000000006000000000

size_right : (t : ℕ) → t < 256 → get_or limits t 0 ≡ size_of t
unfolding hex hex_to limits sizes number_in size_of among
size_right t h = eqb→eq (get_or limits t 0) (size_of t) (every_at 256 (λ t. eqb (get_or limits t 0) (size_of t)) tt t h)

-- the same, as the code reads it
pub size_read : (t i r : ℕ) → t < 256 → i ≡ t → r ≡ get_or limits i 0 → r ≡ size_of t
size_read t i r h e x = (rw e at x) ∙ size_right t h

pub size_none : (t : ℕ) → t < 256 → 0x10 ≤ t → 0 ≡ size_of t
unfolding hex hex_to limits
size_none t h g = sym (get_or-eq_default limits 0 {n = t} g) ∙ size_right t h
