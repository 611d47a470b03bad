-- The command of a card is that of the part that the card shows.
-- Assumes nothing.
use Prim.Native.Nat.{◌+◌}
use mathlib.Core.Bool.{true}
use mathlib.Core.Path.{◌≡◌, refl}
use Rattle.rules.specs.Tlvs.{Tlvs, done, past, tlv}
use Rattle.rules.specs.Pieces.{pieces}
use Rattle.rules.specs.Card.{Card}
use Rattle.rules.specs.Command.{Execute, simple_tlvs, expanded, command_body, command}
use Rattle.variable.specs.View.{seen, bare}
use Rattle.value.proofs.Bare.{bare_joined}

bare_expanded : (c : Card) (row : Tlvs) → expanded (bare c) row ≡ expanded c row
unfolding expanded bare seen
bare_expanded c (done p) = refl
bare_expanded c (past p) = refl
bare_expanded c (tlv tag at start stop rest) = rw (bare_expanded c rest, bare_joined c (pieces true c.run.page (start + 1) stop))

pub bare_command : (c : Card) (x : Execute) → command (bare c) x ≡ command c x
unfolding command command_body bare seen
bare_command c x = rw (bare_expanded c (simple_tlvs c.run.page x))
