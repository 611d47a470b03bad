-- What a read of a page's string asks of the card.
use Rattle.std.specs.Prelude.{ℕ, ◌≤◌, length}
use Rattle.rules.specs.Page.{element}
use Rattle.rules.specs.Card.{Card}
use Rattle.rules.specs.Store.{string_of, value_bytes, longest}

-- no string of the page that runs is longer than a value may be
abbrev pub ShortStrings : Card → Type 0
ShortStrings c = (n : ℕ) → length (value_bytes (string_of c.run.page (element c.run.page n))) ≤ longest
