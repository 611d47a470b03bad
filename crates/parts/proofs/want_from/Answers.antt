-- `parts::want_from` meets its contract.
use Rattle.parts.proofs.PartLaws.{want_part}
use Rattle.parts.proofs.want_from.Goals as goal

pub returns-clause-wanted_after : goal.returns-clause-wanted_after
returns-clause-wanted_after c = want_part _ _ _ _ _ _ c.page_of.ensures.0 c.part_of.ensures c.want.ensures.wanted_after

pub returns-clause-wanted_after_2 : goal.returns-clause-wanted_after_2
returns-clause-wanted_after_2 c = c.want.ensures.wanted_after_2
