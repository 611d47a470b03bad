-- The pieces of a value from a place on, whether it is a Variable Identifier List or an Inline Value.
use Rattle.std.specs.Prelude.{ℕ, ◌+◌, Bool, true, cond, List, get_or, leb, eqb}
use Rattle.rules.specs.Bytes.{part}
use Rattle.rules.specs.Pieces.{Pieces, pair_at, pieces, named}
use Rattle.rules.specs.Page.{content_at}
use Rattle.rules.specs.declared.Pair.{Pair}
use Rattle.rules.specs.declared.Pair.TheVariants.{Number, Broken}

unfoldable pub pieces_from : Bool → List ℕ → ℕ → ℕ → Pieces
pieces_from list s at end = cond list (named (part s at end)) (pieces true s at end)

-- the first of them
unfoldable pub piece_at : Bool → List ℕ → ℕ → ℕ → Pair
piece_at list s at end = cond (leb end at) Broken (cond list (Number (get_or s at 0) (at + 1)) (pair_at true s at end))

-- where the pieces of a value start: a list has no attributes
unfoldable pub contents_at : List ℕ → ℕ → ℕ → ℕ → ℕ
contents_at s tag start stop = cond (eqb tag 0x0D) start (content_at s tag start stop)
