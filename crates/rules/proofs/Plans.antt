-- A plan refuses only by numbers that end the page. Assumes nothing.
use Prim.Native.Nat.{ℕ, ◌%◌}
use mathlib.Core.Path.{◌≡◌, refl}
use mathlib.Core.List.{List}
use lib.Dec.{ltb, eqb}
use lib.ListN.{length}
use Rattle.rules.specs.Bytes.{among}
use Rattle.rules.specs.Numbers.{number, ended, leaves}
use Rattle.rules.specs.Tlvs.{Tlvs}
use Rattle.rules.specs.Shape.{attribute}
use Rattle.rules.specs.Handler.{handle}
use Rattle.rules.specs.Card.{Card, Slot, free, held}
use Rattle.rules.specs.Store.{Written, wrote, no_room}
use Rattle.rules.specs.Command.{Execute, allowed, command}
use Rattle.rules.specs.Step.{Move, finish, Plan, refuses, does, runs_out, unless, storing, branch_by, branch, perform, set_variable, get_length, chosen, branch_on_slot, branch_on_value, exit, execute, ByteCode, setting_variables, going_back, branching, exiting, executing, getting_length, unknown, byte_code, plan_by, plan_for, decide, here, with_results, answer_by, answer_for}
use Rattle.rules.specs.declared.Target.{Target}
use Rattle.rules.specs.declared.Target.TheVariants.{Unit, Lacking, Other}
use Rattle.rules.specs.declared.Action.{Action}
use Rattle.rules.specs.declared.Action.TheVariants.{Pass, Next, Quit, Back, Retry, Go}
use Rattle.rules.specs.declared.Choice.{Choice}
use Rattle.rules.specs.declared.Choice.TheVariants.{Follow, Stay, Unknown}
use Rattle.rules.specs.declared.Complaint.{Complaint}
use Rattle.rules.specs.declared.Complaint.TheVariants.{Nothing, Undefined, Secured, Misused}
use Rattle.rules.proofs.Choices.{either}
use Rattle.std.specs.Prelude.{Option, Some, None}
use Rattle.rules.specs.declared.Tlv.{Tlv}

-- the plan does something, or refuses by a number that ends the page
abbrev pub Ending : Plan → Type 0
Ending (refuses r) = leaves (number r) ≡ ended
Ending (does c m) = Prim.Unit {0}
Ending runs_out = Prim.Unit {0}

unless_ending : (a : Complaint) (p : Plan) → Ending p → Ending (unless a p)
unfolding unless number leaves among
unless_ending Nothing p h = h
unless_ending Undefined p h = refl
unless_ending Secured p h = refl
unless_ending Misused p h = refl

storing_ending : (m : Move) (w : Written) → Ending (storing m w)
unfolding storing number leaves among
storing_ending m (wrote c) = tt
storing_ending m no_room = refl

branch_ending : (c : Card) (r : List ℕ) (t : Target) → Ending (branch_by c r t)
unfolding branch_by number leaves among
branch_ending c r (Unit k) = tt
branch_ending c r Lacking = refl
branch_ending c r Other = tt

perform_ending : (c : Card) (next : ℕ) (again : Move) (a : Action) → Ending (perform c next again a)
unfolding perform branch
perform_ending c next again Pass = tt
perform_ending c next again Next = tt
perform_ending c next again Quit = tt
perform_ending c next again Back = tt
perform_ending c next again Retry = tt
perform_ending c next again (Go start stop) = branch_ending c _ _

chosen_ending : (c : Card) (next : ℕ) (a : Choice) → Ending (chosen c next a)
unfolding chosen branch number leaves among
chosen_ending c next (Follow start stop) = branch_ending c _ _
chosen_ending c next Stay = tt
chosen_ending c next Unknown = refl

slot_ending : (c : Card) (next : ℕ) (row : Tlvs) (x : Slot) → Ending (branch_on_slot c next row x)
unfolding branch_on_slot number leaves among
slot_ending c next row free = refl
slot_ending c next row (held type bytes) = chosen_ending c next _

execute_ending : (c : Card) (x : Execute) → Ending (execute c x)
unfolding execute number leaves among
execute_ending c x =
    unless_ending _ _
    (either Ending (allowed c x) (λ _. either Ending (ltb 255 (length (command c x))) (λ _. refl) (λ _. tt)) (λ _. refl))

exit_ending : (c : Card) (tag start stop : ℕ) → Ending (exit c tag start stop)
unfolding exit
exit_ending c tag start stop =
    either Ending (eqb (attribute c.run.page tag start stop % 2) 1) (λ _. tt) (λ _. perform_ending c stop finish (handle c.run.page c.run.unit 0x10))

code_ending : (c : Card) (tag start stop : ℕ) (b : ByteCode) → Ending (plan_by c tag start stop b)
unfolding plan_by set_variable get_length branch_on_value number leaves among
code_ending c tag start stop setting_variables = unless_ending _ _ (storing_ending _ _)
code_ending c tag start stop going_back = tt
code_ending c tag start stop branching = unless_ending _ _ (slot_ending c stop _ _)
code_ending c tag start stop exiting = exit_ending c tag start stop
code_ending c tag start stop executing = execute_ending c _
code_ending c tag start stop getting_length = unless_ending _ _ (storing_ending _ _)
code_ending c tag start stop unknown = refl

plan_ending : (c : Card) (h : Option Tlv) → Ending (plan_for c h)
unfolding plan_for
plan_ending c (Some h) = code_ending c h.tag h.start h.stop (byte_code h.tag)
plan_ending c None = tt

pub decide_ending : (c : Card) → Ending (decide c)
unfolding decide
decide_ending c = plan_ending c (here c)

results_ending : (w : Written) (p : Plan) → Ending p → Ending (with_results w p)
unfolding with_results
results_ending w (refuses r) h = h
results_ending w (does c m) h = storing_ending m w
results_ending w runs_out h = tt

pub answer_ending : (c : Card) (g : ℕ) (r : List ℕ) (after h : Option Tlv) → Ending (answer_for c g r after h)
unfolding answer_for answer_by
answer_ending c g r after (Some h) = results_ending _ _ (perform_ending c _ _ _)
answer_ending c g r after None = tt
