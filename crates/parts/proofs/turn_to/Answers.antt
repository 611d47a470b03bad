-- `parts::turn_to` meets its contract.
use mathlib.Core.Path.{refl}
use Rattle.parts.proofs.PartLaws.{turn_unit, turn_lacking, turn_other, unit_not_page, page_not_unit}
use Rattle.parts.proofs.turn_to.Goals as goal

pub returns-in-Unit-clause-value : goal.returns-in-Unit-clause-value
returns-in-Unit-clause-value c = turn_unit _ _ _ c.page_of.ensures.0 _ c.in-Unit.ensures _ refl

pub returns-in-Unit-clause-wanted_after : goal.returns-in-Unit-clause-wanted_after
returns-in-Unit-clause-wanted_after c = (λ x _. unit_not_page _ x)

pub returns-in-Unit-clause-by_index : goal.returns-in-Unit-clause-by_index
returns-in-Unit-clause-by_index c = (λ _ _. refl)

pub returns-in-Unit-clause-wanted_after_2 : goal.returns-in-Unit-clause-wanted_after_2
returns-in-Unit-clause-wanted_after_2 c = (λ t. t)

pub returns-in-Lacking-clause-value : goal.returns-in-Lacking-clause-value
returns-in-Lacking-clause-value c = turn_lacking _ _ _ c.page_of.ensures.0 _ c.in-Lacking.ensures refl

pub returns-in-Lacking-clause-wanted_after : goal.returns-in-Lacking-clause-wanted_after
returns-in-Lacking-clause-wanted_after c = (λ _. c.want.ensures.wanted_after)

pub returns-in-Lacking-clause-by_index : goal.returns-in-Lacking-clause-by_index
returns-in-Lacking-clause-by_index c = (λ k x. page_not_unit k x)

pub returns-in-Lacking-clause-wanted_after_2 : goal.returns-in-Lacking-clause-wanted_after_2
returns-in-Lacking-clause-wanted_after_2 c = c.want.ensures.wanted_after_2

pub returns-in-Other-clause-value : goal.returns-in-Other-clause-value
returns-in-Other-clause-value c = turn_other _ _ _ c.page_of.ensures.0 _ c.in-Other.ensures refl

pub returns-in-Other-clause-wanted_after : goal.returns-in-Other-clause-wanted_after
returns-in-Other-clause-wanted_after c = (λ _. c.want-in-Other.ensures.wanted_after)

pub returns-in-Other-clause-by_index : goal.returns-in-Other-clause-by_index
returns-in-Other-clause-by_index c = (λ k x. page_not_unit k x)

pub returns-in-Other-clause-wanted_after_2 : goal.returns-in-Other-clause-wanted_after_2
returns-in-Other-clause-wanted_after_2 c = c.want-in-Other.ensures.wanted_after_2
