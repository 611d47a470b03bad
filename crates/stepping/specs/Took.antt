-- A step of a page that runs, past the tests of 32, 35 and 33: where it leads.
use Rattle.std.specs.Prelude.{ℕ, true, false, ◌≡◌, List, Ok}
use Rattle.rules.specs.declared.Outcome.{Outcome}
use Rattle.rules.specs.declared.Outcome.TheVariants.{On as GoneOn, Command}
use Rattle.rules.specs.Loader.{judge}
use Rattle.rules.specs.Card.{is_empty}
use Rattle.rules.specs.Keep.{rested}
use Rattle.rules.specs.Step.{Effect, effect, stepped}
use Rattle.rules.specs.Calls.{buffer_after, goes_on}
use Rattle.rules.proofs.StaysCardStep.{Running}
use Rattle.state.specs.declared.State.{State}
use Rattle.state.specs.State.{Is, card}
use Rattle.moving.specs.Moved.{Comes}
use Rattle.parts.specs.Parts.{laid}
use Rattle.stepping.specs.declared.Took.{Took}
use Rattle.stepping.specs.declared.Took.TheVariants.{On, Sent, Ends}

-- a page runs and awaits no response
pub record Ready (m : State) : Type 0 where
  pub is : Is m (card m)
  pub runs : Running (card m)
  pub idle : is_empty (card m).run.hand ≡ true

-- the page ends: what is left of the effect is the keep rule
pub record Ending (outcome : Outcome) (o : State) (e : Effect) : Type 0 where
  pub is : Is o (card o)
  pub accepted : judge (card o).run.page ≡ Ok tt
  pub stops : goes_on outcome ≡ false
  pub rests : e ≡ effect outcome (rested (card o))

-- where the step leads, with the state as it stands then
abbrev pub Stands : Took → State → Effect → Type 0
Stands (On unit place) o e = Comes (record { state = laid o.page o.len o.environment o.temporary o.permanent o.trail o.guard o.hand o.wanted unit place; outcome = GoneOn }) e
Stands (Sent n) o e = Comes (record { state = o; outcome = Command n }) e
Stands (Ends outcome) o e = Ending outcome o e

-- the step of the definitions, with the lent buffer before and after it
pub record Leads (r : Took) (m o : State) (before after : List ℕ) : Type 0 where
  pub stands : Stands r o (stepped (card m))
  pub buffer : after ≡ buffer_after before (stepped (card m)).card (stepped (card m)).outcome
