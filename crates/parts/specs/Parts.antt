-- A state by its parts, and what is found on them.
use Rattle.std.specs.Prelude.{ℕ, cond, List, eqb}
use Rattle.rules.specs.declared.Target.{Target}
use Rattle.rules.specs.declared.Target.TheVariants.{Unit as OwnUnit, Lacking, Other}
use Rattle.rules.specs.Reference.{target}
use Rattle.rules.specs.Card.{History}
use Rattle.rules.specs.Trail.{last}
use Rattle.rules.specs.Command.{execute_of, command}
use Rattle.variable.specs.View.{view}
use Rattle.state.specs.declared.State.{State}
use Rattle.parts.specs.declared.Turn.{Turn}
use Rattle.parts.specs.declared.Turn.TheVariants.{Nowhere, Unit, Page}

-- a state by its parts
abbrev pub laid : (page : List ℕ) (len : ℕ) (environment temporary permanent trail guard hand wanted : List ℕ) (unit place : ℕ) → State
laid page len environment temporary permanent trail guard hand wanted unit place =
    record { page = page; len = len; environment = environment; temporary = temporary; permanent = permanent; trail = trail; guard = guard; hand = hand; wanted = wanted; unit = unit; place = place }

-- the command of an Execute USAT Command, by what is lent
abbrev pub command_of : (page env temp perm : List ℕ) (tag start stop : ℕ) → List ℕ
command_of page env temp perm tag start stop = command (view page env temp perm) (execute_of page tag start stop)

-- where going back leads (4.6)
unfoldable pub turn_to : Target → Turn
turn_to (OwnUnit k) = Unit k
turn_to Lacking = Page
turn_to Other = Page

unfoldable pub turn_of : List ℕ → History → Turn
turn_of s h = cond (eqb h.pointer 0) Nowhere (turn_to (target s (last h)))
