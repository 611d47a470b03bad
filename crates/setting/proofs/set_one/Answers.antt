-- `setting::set_one` meets its contract.
use Rattle.setting.proofs.SetLaws.{one_laws}
use borrow.Author.Rules.{rules}
use Rattle.setting.proofs.set_one.Goals as goal

pub returns-then-size-gt255-clause-to_value : goal.returns-then-size-gt255-clause-to_value
returns-then-size-gt255-clause-to_value c = search (rules, one_laws)

pub returns-then-size-gt255-clause-temp_after : goal.returns-then-size-gt255-clause-temp_after
returns-then-size-gt255-clause-temp_after c = λ t. t

pub returns-then-size-gt255-clause-perm_after : goal.returns-then-size-gt255-clause-perm_after
returns-then-size-gt255-clause-perm_after c = λ t. t

pub slice_bounds-part_of-end : goal.slice_bounds-part_of-end
slice_bounds-part_of-end c = search (rules, one_laws)

pub returns-clause-to_value : goal.returns-clause-to_value
returns-clause-to_value c = search (rules, one_laws)
