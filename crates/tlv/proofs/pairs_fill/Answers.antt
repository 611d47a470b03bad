-- `tlv::pairs_fill` meets its contract. The invariant: the pairs from here on fill the value where those from the start do.
use borrow.Author.Rules.{rules}
use Rattle.tlv.proofs.Ways.{fill_laws}
use Rattle.tlv.proofs.pairs_fill.Goals as goal

pub loop-at-preserved-in-Text : goal.loop-at-preserved-in-Text
loop-at-preserved-in-Text c = search (rules, fill_laws)

pub loop-at-preserved : goal.loop-at-preserved
loop-at-preserved c = search (rules, fill_laws)

pub returns-in-Broken : goal.returns-in-Broken
returns-in-Broken c = search (rules, fill_laws)

pub returns : goal.returns
returns c = search (rules, fill_laws)
