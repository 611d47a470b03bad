-- `beyond` reads off its table what the rules say to be beyond the base.
use native.Mathlib.Omega.{arith}
use Rattle.rules.specs.Bytes.{hex_to, hex}
use Rattle.grammar.proofs.Tables.{beyond_bits, beyond_none, beyond_unit, beyond_modifier, beyond_action}
use Rattle.grammar.proofs.beyond.Goals as goal

pub returns-in-2 : goal.returns-in-2
unfolding hex hex_to beyond_bits
returns-in-2 c = beyond_unit _ _ _ (omega arith) c.column_of-c.ensures.value (omega arith)

pub returns-in-4 : goal.returns-in-4
unfolding hex hex_to beyond_bits
returns-in-4 c = beyond_action _ _ _ (omega arith) c.column_of-c.ensures.value (omega arith)

pub returns-in-3 : goal.returns-in-3
unfolding hex hex_to beyond_bits
returns-in-3 c = beyond_modifier _ _ _ (omega arith) c.column_of-c.ensures.value (omega arith)

pub returns-in_default : goal.returns-in_default
returns-in_default c = beyond_none _ _ (omega arith) (omega arith) (omega arith)
