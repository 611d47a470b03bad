-- `parts::end_page` meets its contract.
use Rattle.parts.proofs.PartLaws.{kept_is, guarded_is}
use mathlib.Core.Path.{refl}
use Rattle.parts.proofs.end_page.Goals as goal

pub returns-clause-value : goal.returns-clause-value
returns-clause-value c = refl

pub returns-clause-temporary_after : goal.returns-clause-temporary_after
returns-clause-temporary_after c = kept_is _ _ _ c.page_of-lent.ensures.0 _ c.keep_temporary.ensures.temporary_after

pub returns-clause-temporary_after_2 : goal.returns-clause-temporary_after_2
returns-clause-temporary_after_2 c = c.keep_temporary.ensures.temporary_after_2

pub returns-clause-guard_after : goal.returns-clause-guard_after
returns-clause-guard_after c = guarded_is _ _ _ c.page_of-lent.ensures.0 c.keep_guard.ensures.guard_after

pub returns-clause-guard_after_2 : goal.returns-clause-guard_after_2
returns-clause-guard_after_2 c = c.keep_guard.ensures.guard_after_2
