-- A step that goes on leaves the page running, with no command in hand.
-- Assumes nothing.
use Prim.Native.Nat.{ℕ, ◌%◌}
use mathlib.Core.Bool.{true, false≢true}
use mathlib.Core.List.{List}
use mathlib.Core.Path.{◌≡◌, refl, ◌∙◌}
use lib.ListN.{length}
use lib.Dec.{ltb, eqb}
use Rattle.rules.specs.declared.Action.{Action}
use Rattle.rules.specs.declared.Action.TheVariants.{Pass, Next, Quit, Back, Retry, Go}
use Rattle.rules.specs.declared.Choice.{Choice}
use Rattle.rules.specs.declared.Choice.TheVariants.{Follow, Stay, Unknown}
use Rattle.rules.specs.declared.Complaint.{Complaint}
use Rattle.rules.specs.declared.Complaint.TheVariants.{Nothing, Undefined, Secured, Misused}
use Rattle.rules.specs.declared.Target.{Target}
use Rattle.rules.specs.declared.Target.TheVariants.{Unit as UnitAt, Lacking, Other}
use Rattle.rules.specs.Bytes.{part}
use Rattle.rules.specs.Tlvs.{Tlvs, tlvs}
use Rattle.rules.specs.Shape.{attribute}
use Rattle.rules.specs.Reference.{target}
use Rattle.rules.specs.Card.{Slot, free, held, Card, is_empty, with_environment, with_history, with_run}
use Rattle.rules.specs.Store.{Written, wrote, no_room}
use Rattle.rules.specs.Command.{Execute, execute_of, allowed, command}
use Rattle.rules.specs.Step.{Effect, Move, onwards, jump, away, back, send, finish, Plan, refuses, does, runs_out, unless, storing, branch_by, branch, perform, set_all, set_variable, get_length, choose, chosen, branch_on_slot, branch_on_value, exit, execute, ByteCode, setting_variables, going_back, branching, exiting, executing, getting_length, unknown, byte_code, plan_by, plan_for, here, decide, wanting, back_to, go_back, moved, applied, marked, placed, entered, leaving, stepped}
use Rattle.rules.specs.Calls.{goes_on}
use Rattle.variable.specs.View.{bare}
use Rattle.leaf.proofs.Cases.{both}
use Rattle.storing.proofs.Lift.{lift, write_lift, set_all_lift}
use Rattle.std.specs.Prelude.{Option, Some, None}
use Rattle.rules.specs.declared.Tlv.{Tlv}

-- the card that goes on has the page of the card before it
abbrev Keeps : Card → Plan → Type 0
Keeps c (refuses r) = Unit {0}
Keeps c (does d m) = d.run.page ≡ c.run.page
Keeps c runs_out = Unit {0}

abbrev Onward : Card → Effect → Type 0
Onward c e = goes_on e.outcome ≡ true → (e.card.run.page ≡ c.run.page) × (is_empty e.card.run.hand ≡ true)

back_to_on : (c : Card) (r : List ℕ) (t : Target) → Onward c (back_to c r t)
unfolding back_to wanting goes_on entered with_run is_empty
back_to_on c r (UnitAt k) h = (refl, refl)
back_to_on c r Lacking h = absurd (false≢true h)
back_to_on c r Other h = absurd (false≢true h)

moved_on : (c : Card) (m : Move) → Onward c (moved c m)
unfolding moved go_back wanting goes_on placed entered leaving marked with_run with_history with_environment is_empty
moved_on c (onwards p) h = (refl, refl)
moved_on c (jump k) h = (refl, refl)
moved_on c (away r) h = absurd (false≢true h)
moved_on c back h =
    both (eqb c.history.pointer 0)
    (λ t. absurd (false≢true (rw t at h)))
    (λ t. rw t (back_to_on _ _ (target c.run.page _) (rw t at h)))
moved_on c (send b) h = absurd (false≢true h)
moved_on c finish h = absurd (false≢true h)

applied_on : (c : Card) (p : Plan) → Keeps c p → Onward c (applied c p)
unfolding applied goes_on
applied_on c (refuses r) k h = absurd (false≢true h)
applied_on c (does d m) k h = let o = moved_on d m h in (o.0 ∙ k, o.1)
applied_on c runs_out k h = absurd (false≢true h)

unless_keeps : (c : Card) (w : Complaint) (p : Plan) → Keeps c p → Keeps c (unless w p)
unfolding unless
unless_keeps c Nothing p k = k
unless_keeps c Undefined p k = tt
unless_keeps c Secured p k = tt
unless_keeps c Misused p k = tt

storing_keeps : (c : Card) (m : Move) (w : Written) → Keeps c (storing m (lift c w))
unfolding storing lift
storing_keeps c m (wrote d) = refl
storing_keeps c m no_room = tt

branch_by_keeps : (c : Card) (r : List ℕ) (t : Target) → Keeps c (branch_by c r t)
unfolding branch_by
branch_by_keeps c r (UnitAt k) = refl
branch_by_keeps c r Lacking = tt
branch_by_keeps c r Other = refl

branch_keeps : (c : Card) (r : List ℕ) → Keeps c (branch c r)
unfolding branch
branch_keeps c r = branch_by_keeps c r (target c.run.page r)

perform_keeps : (c : Card) (next : ℕ) (again : Move) (a : Action) → Keeps c (perform c next again a)
unfolding perform
perform_keeps c next again Pass = refl
perform_keeps c next again Next = refl
perform_keeps c next again Quit = refl
perform_keeps c next again Back = refl
perform_keeps c next again Retry = refl
perform_keeps c next again (Go start stop) = branch_keeps c (part c.run.page start stop)

chosen_keeps : (c : Card) (next : ℕ) (x : Choice) → Keeps c (chosen c next x)
unfolding chosen
chosen_keeps c next (Follow start stop) = branch_keeps c (part c.run.page start stop)
chosen_keeps c next Stay = refl
chosen_keeps c next Unknown = tt

slot_keeps : (c : Card) (next : ℕ) (row : Tlvs) (x : Slot) → Keeps c (branch_on_slot c next row x)
unfolding branch_on_slot
slot_keeps c next row free = tt
slot_keeps c next row (held type bytes) = chosen_keeps c next (choose c bytes row)

execute_keeps : (c : Card) (x : Execute) → Keeps c (execute c x)
unfolding execute
execute_keeps c x =
    unless_keeps c _ _
    (both (allowed c x)
    (λ t. rw t (both (ltb 255 (length (command c x))) (λ u. rw u tt) (λ u. rw u refl)))
    (λ t. rw t tt))

code_keeps : (c : Card) (tag start stop : ℕ) (b : ByteCode) → Keeps c (plan_by c tag start stop b)
unfolding plan_by set_variable get_length branch_on_value exit
code_keeps c tag start stop setting_variables =
    unless_keeps c _ _ (rw (set_all_lift (tlvs 1 c.run.page start stop) c) (storing_keeps c (onwards stop) (set_all (tlvs 1 c.run.page start stop) (bare c))))
code_keeps c tag start stop going_back = refl
code_keeps c tag start stop branching = unless_keeps c _ _ (slot_keeps c stop _ _)
code_keeps c tag start stop exiting = both (eqb (attribute c.run.page tag start stop % 2) 1) (λ t. rw t refl) (λ t. rw t (perform_keeps c stop finish _))
code_keeps c tag start stop executing = execute_keeps c (execute_of c.run.page tag start stop)
code_keeps c tag start stop getting_length = unless_keeps c _ _ (rw (write_lift c _ 3 _).0 (storing_keeps c (onwards stop) _))
code_keeps c tag start stop unknown = tt

plan_keeps : (c : Card) (h : Option Tlv) → Keeps c (plan_for c h)
unfolding plan_for
plan_keeps c (Some h) = code_keeps c h.tag h.start h.stop (byte_code h.tag)
plan_keeps c None = tt

pub stepped_on : (c : Card) → goes_on (stepped c).outcome ≡ true → ((stepped c).card.run.page ≡ c.run.page) × (is_empty (stepped c).card.run.hand ≡ true)
unfolding stepped decide
stepped_on c h = applied_on c (plan_for c (here c)) (plan_keeps c (here c)) h
