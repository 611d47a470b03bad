-- `leaf::same_bytes` meets its contract. The invariant: what is left of the two compares as the whole does.
use mathlib.Core.Path.{sym, ◌∙◌}
use Rattle.leaf.proofs.BytesLaws.{same_length, same_done, same_more, same_less}
use native.Mathlib.Omega.{arith}
use Rattle.leaf.proofs.same_bytes.Goals as goal

pub returns-then-a-b : goal.returns-then-a-b
returns-then-a-b c = sym (same_length c.args.a.now c.args.b.now (omega arith))

pub returns-then-a-i : goal.returns-then-a-i
returns-then-a-i c = let a = c.args in
    sym (c.loop-i.invariant ∙ same_less a.a.now a.b.now c.loop-i.i (omega arith) (omega arith) (omega arith))

pub loop-i-preserved : goal.loop-i-preserved
loop-i-preserved c = let a = c.args in
    c.loop-i.invariant ∙ same_more a.a.now a.b.now c.loop-i.i (omega arith) (omega arith) (omega arith)

pub returns : goal.returns
returns c = let a = c.args in
    sym (c.loop-i.invariant ∙ same_done a.a.now a.b.now c.loop-i.i (omega arith) (omega arith))
