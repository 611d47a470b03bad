-- A run of steps, past the tests of 32, 35 and 33.
use Rattle.std.specs.Prelude.{ℕ, ◌≡◌, List}
use Rattle.rules.specs.Calls.{buffer_after, Counted}
use Rattle.state.specs.State.{Is}
use Rattle.parts.specs.declared.Course.{Course}

-- what a run comes to, with the lent buffer before and after it
pub record Counts (r : Course) (before after : List ℕ) (k : Counted) : Type 0 where
  pub outcome : r.ran.outcome ≡ k.last.outcome
  pub count : r.ran.count ≡ k.count
  pub state : Is r.state k.last.card
  pub buffer : after ≡ buffer_after before k.last.card k.last.outcome
