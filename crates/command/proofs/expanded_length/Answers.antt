-- `command::expanded_length` meets its contract. The invariant: the sum so far and the length from here on come to that of all Simple TLVs, and the sum stays small.
use Rattle.command.proofs.SentLaws.{length_laws}
use borrow.Author.Rules.{rules}
use Rattle.command.proofs.expanded_length.Goals as goal

pub returns-in_default : goal.returns-in_default
returns-in_default c = search (rules, length_laws)

pub loop-at-preserved : goal.loop-at-preserved
loop-at-preserved c = search (rules, length_laws)

pub returns : goal.returns
returns c = search (rules, length_laws)
