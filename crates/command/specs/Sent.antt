-- The parts of an outgoing command.
use Rattle.std.specs.Prelude.{ℕ, ◌+◌, true, cond, List, [], ◌∷◌, get_or, eqb}
use Rattle.rules.specs.Bytes.{part}
use Rattle.rules.specs.Pieces.{pieces}
use Rattle.rules.specs.Card.{Card}
use Rattle.rules.specs.Value.{joined}
use Rattle.rules.specs.Command.{indicated}

-- a Simple TLV as it goes out
unfoldable pub sent : Card → ℕ → ℕ → ℕ → ℕ → List ℕ
sent c tag at start stop =
    cond (eqb tag 0) (indicated (get_or c.run.page start 0) (joined c (pieces true c.run.page (start + 1) stop))) (part c.run.page at stop)

-- command details and device identities, by the place of the command's type
unfoldable pub details : List ℕ → ℕ → List ℕ
details s at = 0x81 ∷ 0x03 ∷ 0x01 ∷ get_or s at 0 ∷ get_or s (at + 1) 0 ∷ 0x82 ∷ 0x02 ∷ 0x81 ∷ get_or s (at + 2) 0 ∷ []
