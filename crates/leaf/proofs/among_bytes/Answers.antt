-- `leaf::among_bytes` meets its contract. The invariant: the number stands in what is left where it stands in the whole list.
use borrow.Author.Rules.{rules}
use Rattle.leaf.proofs.BytesLaws.{among_laws}
use Rattle.leaf.proofs.among_bytes.Goals as goal

pub returns-then-n-list : goal.returns-then-n-list
returns-then-n-list c = search (rules, among_laws)

pub loop-i-preserved : goal.loop-i-preserved
loop-i-preserved c = search (rules, among_laws)

pub returns : goal.returns
returns c = search (rules, among_laws)
