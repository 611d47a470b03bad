-- The history (clauses 4.6 and 8.4).
use Rattle.std.specs.Prelude.{ℕ, ◌-◌, Bool, true, false, cond, List, [], ◌∷◌, ◌++◌, length, get_or, take, drop, ltb}
use Rattle.rules.specs.Page.{identification, anchor, bytes_of, is_held, unrecorded}
use Rattle.rules.specs.Reference.{reference}
use Rattle.rules.specs.Card.{History}

abbrev pub depth : ℕ
depth = 16

-- one more entry on top; the oldest goes where there are too many
unfoldable pub pushed : List (List ℕ) → List ℕ → List (List ℕ)
pushed es e = cond (ltb (length es) depth) (es ++ e ∷ []) (drop 1 es ++ e ∷ [])

unfoldable pub topped : List (List ℕ) → History
topped es = record { entries = es; pointer = length es }

-- a unit is recorded where it has an anchor and its flag does not say otherwise
unfoldable pub recorded : List ℕ → ℕ → Bool
recorded s k = cond (is_held (anchor s k)) (cond (unrecorded s k) false true) false

-- a branch away from a unit: what lies above the pointer goes, the unit is added, and the pointer is at the top
unfoldable pub left : List ℕ → ℕ → History → History
left s k h =
    cond (recorded s k)
    (topped (pushed (take h.pointer h.entries) (reference (identification s) (bytes_of s (anchor s k)))))
    (topped (take h.pointer h.entries))

-- going back takes the entry at the pointer and moves the pointer down
unfoldable pub last : History → List ℕ
last h = get_or h.entries (h.pointer - 1) []

unfoldable pub lowered : History → History
lowered h = record { entries = h.entries; pointer = h.pointer - 1 }
