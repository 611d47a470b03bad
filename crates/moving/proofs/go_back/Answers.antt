-- `moving::go_back` meets its contract.
use Rattle.moving.proofs.MoveLaws.{back_none, back_unit, back_fetched}
use borrow.Author.Rules.{rules}
use Rattle.moving.proofs.go_back.Goals as goal

pub returns-then-pointer_of-eq0 : goal.returns-then-pointer_of-eq0
returns-then-pointer_of-eq0 c card is ok fine = search (rules, back_none _ card is)

pub returns-in-Unit : goal.returns-in-Unit
returns-in-Unit c card is ok fine = back_unit _ card is _ c.note.ensures.environment_after c.note.ensures.environment_after_2 ok _ _ c.pointer_of.ensures.0 c.if-pointer_of-eq0.false _ c.last_entry-entry.ensures _
    c.lower.ensures.trail_after_2 c.lower.ensures.trail_after_3 _ c.page_of.ensures.0 _ c.target.ensures _ (search rules) c.enter.ensures

pub returns-in-Lacking : goal.returns-in-Lacking
returns-in-Lacking c card is ok fine = back_fetched _ card is _ c.note.ensures.environment_after c.note.ensures.environment_after_2 ok _ _ c.pointer_of.ensures.0 c.if-pointer_of-eq0.false _ c.last_entry-entry.ensures _
    c.lower.ensures.trail_after_2 c.lower.ensures.trail_after_3 _ c.page_of.ensures.0 _ c.target.ensures fine c.fetch.ensures c.in-Lacking.is
