-- What a move comes to.
use Rattle.std.specs.Prelude.{ℕ, ◌≤◌, ◌≡◌, List, [], ◌∷◌, length, Option, Some, None}
use Rattle.rules.specs.Bytes.{part}
use Rattle.rules.specs.Step.{Effect}
use Rattle.rules.specs.declared.Action.{Action}
use Rattle.rules.specs.declared.Action.TheVariants.{Pass, Next, Quit, Back, Retry, Go}
use Rattle.state.specs.State.{Is}
use Rattle.moving.specs.declared.Moved.{Moved}

-- the outcome of the definitions, and a state that is their card
pub record Comes (r : Moved) (e : Effect) : Type 0 where
  pub outcome : r.outcome ≡ e.outcome
  pub state : Is r.state e.card

-- the reference of a branch has at most 65 bytes
abbrev pub Bounded : List ℕ → Action → Type 0
Bounded s Pass = Unit {0}
Bounded s Next = Unit {0}
Bounded s Quit = Unit {0}
Bounded s Back = Unit {0}
Bounded s Retry = Unit {0}
Bounded s (Go start stop) = length (part s start stop) ≤ 65

-- a refusal's code by its second byte, where it has one
unfoldable pub code_by : Option ℕ → List ℕ
code_by (Some low) = 0x6F ∷ low ∷ []
code_by None = []
