-- What an Execute USAT Command asks of a card it asks of the part that the card shows.
-- Assumes nothing.
use Prim.Native.Nat.{◌+◌}
use mathlib.Core.Bool.{true}
use mathlib.Core.List.{[]}
use mathlib.Core.Path.{◌≡◌, refl}
use Rattle.rules.specs.Tlvs.{Tlvs, done, past, tlv}
use Rattle.rules.specs.Pieces.{pieces}
use Rattle.rules.specs.Card.{Card}
use Rattle.rules.specs.Store.{writing}
use Rattle.rules.specs.Command.{Execute, simple_tlvs, result_complaint, indicator_complaint, execute_complaint, allowed}
use Rattle.variable.specs.View.{seen, bare}
use Rattle.value.proofs.Bare.{bare_complaint}

bare_indicator : (c : Card) (row : Tlvs) → indicator_complaint (bare c) row ≡ indicator_complaint c row
unfolding indicator_complaint bare seen
bare_indicator c (done p) = refl
bare_indicator c (past p) = refl
bare_indicator c (tlv tag at start stop rest) = rw (bare_indicator c rest, bare_complaint c [] (pieces true c.run.page (start + 1) stop))

pub bare_execute : (c : Card) (x : Execute) → execute_complaint (bare c) x ≡ execute_complaint c x
unfolding execute_complaint result_complaint writing bare seen
bare_execute c x = rw (bare_indicator c (simple_tlvs c.run.page x))

pub bare_allowed : (c : Card) (x : Execute) → allowed (bare c) x ≡ allowed c x
unfolding allowed bare seen
bare_allowed c x = refl
