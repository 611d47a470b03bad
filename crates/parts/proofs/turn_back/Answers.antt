-- `parts::turn_back` meets its contract.
use mathlib.Core.Path.{refl}
use Rattle.parts.proofs.PartLaws.{turn_none, turn_is, turn_not_nowhere, turn_wanted, nowhere_not_unit, nowhere_not_page}
use Rattle.parts.proofs.turn_back.Goals as goal

pub returns-then-pointer_of-eq0-clause-value : goal.returns-then-pointer_of-eq0-clause-value
returns-then-pointer_of-eq0-clause-value c = turn_none _ _ _ c.pointer_of.ensures.0 c.if-pointer_of-eq0.true

pub returns-then-pointer_of-eq0-clause-trail_unchanged : goal.returns-then-pointer_of-eq0-clause-trail_unchanged
returns-then-pointer_of-eq0-clause-trail_unchanged c = (λ _. (refl, refl))

pub returns-then-pointer_of-eq0-clause-by_index : goal.returns-then-pointer_of-eq0-clause-by_index
returns-then-pointer_of-eq0-clause-by_index c = (λ k x. nowhere_not_unit k x)

pub returns-then-pointer_of-eq0-clause-trail_after : goal.returns-then-pointer_of-eq0-clause-trail_after
returns-then-pointer_of-eq0-clause-trail_after c = (λ x. nowhere_not_page x)

pub returns-then-pointer_of-eq0-clause-wanted_after : goal.returns-then-pointer_of-eq0-clause-wanted_after
returns-then-pointer_of-eq0-clause-wanted_after c = (λ x _. nowhere_not_page x)

pub returns-then-pointer_of-eq0-clause-trail_after_2 : goal.returns-then-pointer_of-eq0-clause-trail_after_2
returns-then-pointer_of-eq0-clause-trail_after_2 c = (λ t. t)

pub returns-then-pointer_of-eq0-clause-wanted_after_2 : goal.returns-then-pointer_of-eq0-clause-wanted_after_2
returns-then-pointer_of-eq0-clause-wanted_after_2 c = (λ t. t)

pub returns-clause-value : goal.returns-clause-value
returns-clause-value c = turn_is _ _ _ c.pointer_of.ensures.0 c.if-pointer_of-eq0.false _ c.last_entry-entry.ensures _ c.turn_to.ensures.value

pub returns-clause-trail_unchanged : goal.returns-clause-trail_unchanged
returns-clause-trail_unchanged c = (λ x. turn_not_nowhere _ _ _ c.pointer_of.ensures.0 c.if-pointer_of-eq0.false _ c.last_entry-entry.ensures _ c.turn_to.ensures.value x)

pub returns-clause-by_index : goal.returns-clause-by_index
returns-clause-by_index c = (λ k x. (c.lower.ensures.trail_after_2, c.turn_to.ensures.by_index k x))

pub returns-clause-trail_after : goal.returns-clause-trail_after
returns-clause-trail_after c = (λ _. c.lower.ensures.trail_after_2)

pub returns-clause-wanted_after : goal.returns-clause-wanted_after
returns-clause-wanted_after c = turn_wanted _ _ _ c.pointer_of.ensures.0 c.if-pointer_of-eq0.false _ c.last_entry-entry.ensures _ c.turn_to.ensures.value _ c.turn_to.ensures.wanted_after

pub returns-clause-trail_after_2 : goal.returns-clause-trail_after_2
returns-clause-trail_after_2 c = c.lower.ensures.trail_after_3

pub returns-clause-wanted_after_2 : goal.returns-clause-wanted_after_2
returns-clause-wanted_after_2 c = c.turn_to.ensures.wanted_after_2
