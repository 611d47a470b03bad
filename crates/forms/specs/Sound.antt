-- A TLV in which no class from 4 on finds a fault of its own.
use Rattle.std.specs.Prelude.{ℕ, ◌≤◌, false, List, ◌≡◌}
use Rattle.rules.specs.declared.Look.{Look}
use Rattle.rules.specs.Forms.{bad_anchor, crowded}
use Rattle.rules.specs.Loader.{look}

-- each class sees the same in a TLV, unless its anchor is bad or it is one too many
abbrev pub Seen : List ℕ → ℕ → ℕ → ℕ → ℕ → ℕ → ℕ → ℕ → Look → Type 0
Seen s within last cell at tag start stop l =
    (class from : ℕ)
    → 4 ≤ class
    → (class ≡ 5 → bad_anchor s at tag start stop ≡ false)
    → (class ≡ 6 → crowded s within from at tag ≡ false)
    → look s class within last cell from at tag start stop ≡ l
