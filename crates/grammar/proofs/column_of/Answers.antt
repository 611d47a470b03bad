-- `column_of` is the column of the definition, and below 32.
use native.Mathlib.Omega.{arith}
use Rattle.rules.specs.Bytes.{hex_to, hex}
use Rattle.grammar.specs.Columns.{columns}
use Rattle.grammar.proofs.Tables.{column_plain, column_unknown, column_attributed}
use Rattle.grammar.proofs.column_of.Goals as goal

pub returns-then-tag-lt128 : goal.returns-then-tag-lt128
unfolding hex hex_to columns
returns-then-tag-lt128 c =
    let all = column_plain _ _ (omega arith) c.slot_of-i.ensures.value c.if-c-ge64.false c.if-tag-lt128.true _ c.wide-then-tag-lt128.ensures.0 in
    record { value = all.0; upper_bound = all.1 }

pub returns-else-tag-lt128 : goal.returns-else-tag-lt128
unfolding hex hex_to columns
returns-else-tag-lt128 c =
    let all = column_unknown _ _ (omega arith) c.slot_of-i.ensures.value c.if-c-ge64.false c.if-tag-lt128.false in
    record { value = all.0; upper_bound = all.1 }

pub returns-then-c-ge64 : goal.returns-then-c-ge64
unfolding hex hex_to columns
returns-then-c-ge64 c =
    let all = column_attributed _ _ (omega arith) c.slot_of-i.ensures.value c.if-c-ge64.true _ c.wide.ensures.0 in
    record { value = all.0; upper_bound = all.1 }
