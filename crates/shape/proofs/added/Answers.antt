-- `added` is the count of the rules.
use Rattle.leaf.proofs.Cases.{cases}
use Rattle.rules.specs.Shape.{added}
use Rattle.shape.proofs.added.Goals as goal

pub returns-then-follows-eq-SIMPLE : goal.returns-then-follows-eq-SIMPLE
unfolding added
returns-then-follows-eq-SIMPLE c = search (cases, c.wide.ensures.0)

pub returns-else-follows-eq-SIMPLE : goal.returns-else-follows-eq-SIMPLE
unfolding added
returns-else-follows-eq-SIMPLE c = search cases
