-- `contents` is what the rules say to stand after the fixed bytes.
use Rattle.leaf.proofs.Cases.{cases, was}
use Rattle.rules.specs.Shape.{contents}
use Rattle.shape.proofs.contents.Goals as goal

pub returns-then-follows-eq-DATA : goal.returns-then-follows-eq-DATA
unfolding contents
returns-then-follows-eq-DATA c = search cases

pub returns-then-follows-eq-NUMBERED : goal.returns-then-follows-eq-NUMBERED
unfolding contents
returns-then-follows-eq-NUMBERED c = search cases

pub returns-then-follows-lt-LENGTH_VALUE : goal.returns-then-follows-lt-LENGTH_VALUE
unfolding contents
returns-then-follows-lt-LENGTH_VALUE c = search (cases, ← c.kind_at.ensures)

pub returns-then-pairs_fill : goal.returns-then-pairs_fill
unfolding contents
returns-then-pairs_fill c = search (cases, was c.pairs_fill.ensures c.if-pairs_fill.true)

pub returns-else-pairs_fill : goal.returns-else-pairs_fill
unfolding contents
returns-else-pairs_fill c = search (cases, was c.pairs_fill.ensures c.if-pairs_fill.false)
