use Rattle.lines.proofs.HexLaws.{unhex_step}
use Rattle.lines.proofs.unhex.Goals as goal

pub loop-i-preserved : goal.loop-i-preserved
loop-i-preserved c =
    let s = c.in-Some.ensures.steps in
    unhex_step _ _ _ _ _ _ _ _ _ _ _ _ c.loop-i.invariant s.0.0 s.0.1.0 s.0.1.1 s.1 s.2 c.byte.ensures
