-- Whether a page opens what is guarded.
use Rattle.std.specs.Prelude.{ℕ, Bool, true, List}
use Rattle.rules.specs.Page.{unlock}
use Rattle.rules.specs.Card.{Guard, unlocked, locked}
use Rattle.rules.specs.Keep.{unlocks}

unfoldable pub opens : List ℕ → Guard → Bool
opens s unlocked = true
opens s (locked word) = unlocks word s (unlock s)
