-- `reading::show_slot` meets its contract.
use Rattle.reading.proofs.ShowLaws.{slot_laws}
use borrow.Author.Rules.{rules}
use Rattle.reading.proofs.show_slot.Goals as goal

pub returns-then-is_held : goal.returns-then-is_held
returns-then-is_held c = search (rules, slot_laws)
