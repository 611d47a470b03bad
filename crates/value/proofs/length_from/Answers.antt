-- `value::length_from` meets its contract. The invariant: the sum so far and the length from here on come to that of the whole value, and the sum stays small.
use Rattle.value.proofs.LengthLaws.{length_laws}
use borrow.Author.Rules.{rules}
use Rattle.value.proofs.length_from.Goals as goal

pub loop-at-preserved-in-Text : goal.loop-at-preserved-in-Text
loop-at-preserved-in-Text c = search (rules, length_laws)

pub loop-at-preserved : goal.loop-at-preserved
loop-at-preserved c = search (rules, length_laws)

pub returns-in-Broken : goal.returns-in-Broken
returns-in-Broken c = search (rules, length_laws)

pub returns : goal.returns
returns c = search (rules, length_laws)
