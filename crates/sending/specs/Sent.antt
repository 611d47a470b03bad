-- What a move comes to, with the lent buffer before and after it.
use Rattle.std.specs.Prelude.{ℕ, ◌≡◌, List}
use Rattle.rules.specs.Step.{Effect}
use Rattle.rules.specs.Calls.{buffer_after}
use Rattle.moving.specs.declared.Moved.{Moved}
use Rattle.moving.specs.Moved.{Comes}

-- the buffer is written only when a command goes out, and bytes beyond the command stay
pub record Sends (r : Moved) (before after : List ℕ) (e : Effect) : Type 0 where
  pub comes : Comes r e
  pub buffer : after ≡ buffer_after before e.card e.outcome
