-- What a command asks of its response: by its attributes, and where its result variables stand.
use Rattle.std.specs.Prelude.{ℕ}
use Rattle.rules.specs.Command.{Execute}

unfoldable pub asked : ℕ → ℕ → ℕ → Execute
asked attributes at stop = record { attributes = attributes; at = at; stop = stop }
