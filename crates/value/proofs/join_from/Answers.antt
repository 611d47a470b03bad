-- `value::join_from` meets its contract. The invariant: the rest, poured from here on, makes of out what the whole value would, and there is room for it.
use Rattle.value.proofs.JoinLaws.{join_laws}
use borrow.Author.Rules.{rules}
use Rattle.value.proofs.join_from.Goals as goal

pub loop-at-preserved-in-Text : goal.loop-at-preserved-in-Text
loop-at-preserved-in-Text c = search (rules, join_laws)

pub loop-at-preserved : goal.loop-at-preserved
loop-at-preserved c = search (rules, join_laws)
