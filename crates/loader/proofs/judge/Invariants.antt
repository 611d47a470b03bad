-- `judge` is the answer of the rules. The loop's invariant: the classes that are left come to the answer.
use Rattle.rules.specs.Loader.{judge}
use Rattle.loader.proofs.JudgeLaws.{Left}
use Rattle.loader.proofs.judge.Given as goal

abbrev pub invariant-loop-class : goal.invariant-loop-class
invariant-loop-class l = Left l.page l.tlv.stop l.class-index (judge l.page)
