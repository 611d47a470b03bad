-- `need_of` reads what a kind asks off its table.
use native.Mathlib.Omega.{arith}
use Rattle.rules.specs.Bytes.{hex_to, hex}
use Rattle.grammar.proofs.Tables.{need_none, need_right, asked}
use Rattle.grammar.proofs.need_of.Goals as goal

pub returns-then-k-lt2 : goal.returns-then-k-lt2
unfolding hex hex_to asked
returns-then-k-lt2 c = need_right _ _ (omega arith) (omega arith)

pub returns-else-kind-lt-KINDS : goal.returns-else-kind-lt-KINDS
returns-else-kind-lt-KINDS c = need_none _ _ c.else-kind-lt-KINDS.either
