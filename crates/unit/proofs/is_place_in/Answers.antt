-- `unit::is_place_in` meets its contract. The invariant: the place is found, from here on, where it is found from the start.
use borrow.Author.Rules.{rules}
use Rattle.unit.proofs.Units.{place_laws}
use Rattle.unit.proofs.is_place_in.Goals.{else-is_code-via-then-is_code+else-place-at, else-is_code-via-else-is_code}
use Rattle.unit.proofs.is_place_in.Goals as goal

pub loop-at-preserved : goal.loop-at-preserved
loop-at-preserved c =
    elim c.else-is_code.branch [
      | else-is_code-via-then-is_code+else-place-at w ↦ search (rules, place_laws)
      | else-is_code-via-else-is_code w ↦ search (rules, place_laws)
    ]
