-- `whole::set_length` meets its contract.
use mathlib.Core.Path.{ap, ◌∙◌}
use Rattle.slots.specs.Slots.{tidy_slots}
use Rattle.records.specs.Records.{tidy_records}
use Rattle.whole.proofs.set_length.Goals as goal

pub returns-in-Err-clause-temp_unchanged : goal.returns-in-Err-clause-temp_unchanged
returns-in-Err-clause-temp_unchanged c = λ _. c.put_back.ensures

pub returns-in-Err-clause-temp_after : goal.returns-in-Err-clause-temp_after
returns-in-Err-clause-temp_after c = λ t. ap tidy_slots c.put_back.ensures.0 ∙ t

pub returns-in-Err-clause-perm_after : goal.returns-in-Err-clause-perm_after
returns-in-Err-clause-perm_after c = λ t. ap tidy_records c.put_back.ensures.1 ∙ t
