-- The entry that a unit leaves in the history (4.6), and the history with it.
use Rattle.std.specs.Prelude.{ℕ, cond, List, [], length, take, eqb}
use Rattle.rules.specs.Page.{identification, anchor, bytes_of}
use Rattle.rules.specs.Reference.{reference}
use Rattle.rules.specs.Card.{History}
use Rattle.rules.specs.Trail.{recorded, pushed, topped}

-- no bytes where the unit is not recorded
unfoldable pub entry_for : List ℕ → ℕ → List ℕ
entry_for s k = cond (recorded s k) (reference (identification s) (bytes_of s (anchor s k))) []

unfoldable pub left_by : List ℕ → History → History
left_by e h = cond (eqb (length e) 0) (topped (take h.pointer h.entries)) (topped (pushed (take h.pointer h.entries) e))
