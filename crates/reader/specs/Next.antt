-- Where a reader goes after the TLV at its place.
use Rattle.std.specs.Prelude.{ℕ, List, length, Option, Some, None}
use Rattle.rules.specs.Tlv.{head_at}
use Rattle.rules.specs.declared.Tlv.{Tlv}

unfoldable pub stop_or : ℕ → Option Tlv → ℕ
stop_or end (Some h) = h.stop
stop_or end None = end

-- the place after the TLV at a place of a container, its end where none stands there
unfoldable pub next_at : List ℕ → ℕ → ℕ
next_at container place = stop_or (length container) (head_at container place (length container))
