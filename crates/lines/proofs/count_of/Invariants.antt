-- The rest of the word comes to what the whole word comes to.
use Rattle.std.proofs.Common.{◌≡◌, drop}
use Rattle.lines.specs.Words.{count_from, count_of}
use Rattle.lines.proofs.count_of.Given as goal

abbrev pub invariant-loop-b : goal.invariant-loop-b
invariant-loop-b l = count_from l.n (drop l.b-index l.word) ≡ count_of l.word
