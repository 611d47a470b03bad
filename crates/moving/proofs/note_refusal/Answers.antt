-- `moving::note_refusal` meets its contract.
use Rattle.moving.proofs.MoveLaws.{note_laws}
use borrow.Author.Rules.{rules}
use Rattle.moving.proofs.note_refusal.Goals as goal

pub returns-in-Some-clause-environment_after : goal.returns-in-Some-clause-environment_after
returns-in-Some-clause-environment_after c = search (rules, note_laws)
