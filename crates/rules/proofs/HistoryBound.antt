-- No call makes the history longer than 16. Assumes nothing.
use Prim.Native.Nat.{ℕ, zero, suc, ◌+◌, ◌≤◌, ◌%◌}
use mathlib.Core.Path.{◌≡◌, refl, ◌∙◌}
use mathlib.Core.Bool.{Bool, true, false, cond}
use mathlib.Core.List.{List, [], ◌∷◌}
use native.Mathlib.Omega.{arith}
use borrow.Author.Tests.{ltb-true}
use lib.Dec.{ltb, eqb}
use lib.ListN.{length, take, set, length-append, length-take, length-drop}
use Rattle.rules.specs.Numbers.{no_error}
use Rattle.rules.specs.Tlvs.{Tlvs, done, past, tlv}
use Rattle.rules.specs.Shape.{attribute}
use Rattle.rules.specs.Handler.{handle}
use Rattle.rules.specs.Card.{Card, Slot, free, held, Record, History, with_environment, with_permanent, with_temporary, with_guard, with_history, with_run, with_wanted, created, runs}
use Rattle.rules.specs.Keep.{rested, started}
use Rattle.rules.specs.Trail.{depth, pushed, topped, recorded, left, lowered}
use Rattle.rules.specs.Loader.{judge}
use Rattle.rules.specs.Command.{Execute, allowed, command, reply, has_general, has_output, general_number, output_number, output, write_slot, then_output, results}
use Rattle.rules.specs.Store.{Area, environmental, permanently, temporarily, string, Written, wrote, no_room, write, write_in, write_permanent, write_temporary, room, record_room, longest, room_limit, area}
use Rattle.rules.specs.Step.{Move, onwards, jump, away, back, send, finish, Plan, refuses, does, runs_out, unless, storing, branch_by, branch, perform, then_set, set_all, set_variable, get_length, chosen, branch_on_slot, branch_on_value, exit, execute, ByteCode, setting_variables, going_back, branching, exiting, executing, getting_length, unknown, byte_code, plan_by, plan_for, decide, here, with_results, answer_by, answer_for, Effect, marked, placed, entered, sending, leaving, wanting, back_to, go_back, moved, failed, applied, stepped, answered}
use Rattle.rules.specs.Calls.{Asked, create, set_environment, load, step, run_up_to, respond, end, read_variable, Did, admitted, lends, ready, waiting, load_by, load_refused, step_done, step_refused, Counted, goes_on, steps, run_done, run_refused, respond_done, respond_refused, respond_by, told_refused, environment_done, act}
use Rattle.rules.specs.IsCard.{is_card}
use Rattle.rules.specs.declared.Target.{Target}
use Rattle.rules.specs.declared.Target.TheVariants.{Unit, Lacking, Other}
use Rattle.rules.specs.declared.Action.{Action}
use Rattle.rules.specs.declared.Action.TheVariants.{Pass, Next, Quit, Back, Retry, Go}
use Rattle.rules.specs.declared.Choice.{Choice}
use Rattle.rules.specs.declared.Choice.TheVariants.{Follow, Stay, Unknown}
use Rattle.rules.specs.declared.Complaint.{Complaint}
use Rattle.rules.specs.declared.Complaint.TheVariants.{Nothing, Undefined, Secured, Misused}
use Rattle.rules.specs.declared.Refusal.{Refusal}
use Rattle.rules.specs.declared.Refusal.TheVariants.{Memory, Buffer, Call, State}
use Rattle.rules.proofs.Choices.{both, either}
use Rattle.std.specs.Prelude.{Option, Some, None, Result, Ok, Err}
use Rattle.rules.specs.declared.Tlv.{Tlv}
use Rattle.rules.specs.declared.Rejection.{Rejection}
use Rattle.rules.specs.declared.Reply.{Reply}

short_push : (es : List (List ℕ)) (e : List ℕ) → length es ≤ 16 → length (pushed es e) ≤ 16
unfolding pushed
short_push es e h =
    both (ltb (length es) depth)
    (λ t. simp (t, length-append) (omega (arith, ltb-true)))
    (λ t. simp (t, length-append, length-drop) (omega arith))

short_take : (n : ℕ) (es : List (List ℕ)) → length es ≤ 16 → length (take n es) ≤ 16
short_take n es h = simp length-take (omega arith)

-- the history is within its limit
abbrev Short : Card → Type 0
Short c = length c.history.entries ≤ 16

short_left : (s : List ℕ) (k : ℕ) (h : History) → length h.entries ≤ 16 → length (left s k h).entries ≤ 16
unfolding left topped
short_left s k h l =
    either (λ (g : History). length g.entries ≤ 16) (recorded s k)
    (λ _. short_push (take h.pointer h.entries) _ (short_take h.pointer h.entries l))
    (λ _. short_take h.pointer h.entries l)

-- a write leaves the history as it was
abbrev WrittenBy : Card → Written → Type 0
WrittenBy c (wrote d) = d.history ≡ c.history
WrittenBy c no_room = Prim.Unit {0}

temporary_by : (c : Card) (k : ℕ) (x : Slot) → WrittenBy c (write_temporary c k x)
unfolding write_temporary with_temporary
temporary_by c k x = either (WrittenBy c) (ltb room_limit (room (set c.temporary k x))) {a = no_room} (λ _. tt) (λ _. refl)

permanent_by : (c : Card) (k : ℕ) (x : Record) → WrittenBy c (write_permanent c k x)
unfolding write_permanent with_permanent
permanent_by c k x =
    either (WrittenBy c) (ltb k (length c.permanent))
    (λ _. either (WrittenBy c) (ltb room_limit (record_room (set c.permanent k x))) {a = no_room} (λ _. tt) (λ _. refl)) (λ _. tt)

area_by : (a : Area) (c : Card) (n type : ℕ) (bytes : List ℕ) → WrittenBy c (write_in a c n type bytes)
unfolding write_in
area_by environmental c n type bytes = refl
area_by permanently c n type bytes = permanent_by c _ _
area_by temporarily c n type bytes = temporary_by c _ _
area_by string c n type bytes = refl

write_by : (c : Card) (n type : ℕ) (bytes : List ℕ) → WrittenBy c (write c n type bytes)
unfolding write
write_by c n type bytes = either (WrittenBy c) (ltb longest (length bytes)) (λ _. tt) (λ _. area_by (area n) c n type bytes)

-- one write after another
before_by : (c d : Card) → d.history ≡ c.history → (w : Written) → WrittenBy d w → WrittenBy c w
before_by c d e (wrote b) h = h ∙ e
before_by c d e no_room h = tt

then_by : (c : Card) (f : Card → Written) → ((d : Card) → WrittenBy d (f d)) → (w : Written) → WrittenBy c w → WrittenBy c (then_set f w)
unfolding then_set
then_by c f g (wrote d) h = before_by c d h (f d) (g d)
then_by c f g no_room h = tt

set_by : (r : Tlvs) (c : Card) → WrittenBy c (set_all r c)
unfolding set_all
set_by (done p) c = refl
set_by (past p) c = refl
set_by (tlv tag at start stop rest) c = then_by c (λ d. set_all rest d) (λ d. set_by rest d) _ (write_by c _ _ _)

slot_by : (c : Card) (n : ℕ) (x : Slot) → WrittenBy c (write_slot c n x)
unfolding write_slot
slot_by c n free = refl
slot_by c n (held type bytes) = write_by c n type bytes

out_by : (d : Card) (r : List ℕ) (x : Execute) (after : Option Tlv) → WrittenBy d (cond (has_output x) (write_slot d (output_number d.run.page x) (output r x after)) (wrote d))
out_by d r x after = either (WrittenBy d) (has_output x) {a = write_slot d (output_number d.run.page x) (output r x after)} {b = wrote d} (λ _. slot_by d _ _) (λ _. refl)

output_by : (c : Card) (r : List ℕ) (x : Execute) (after : Option Tlv) (w : Written) → WrittenBy c w → WrittenBy c (then_output r x after w)
unfolding then_output
output_by c r x after (wrote d) h = before_by c d h (cond (has_output x) (write_slot d (output_number d.run.page x) (output r x after)) (wrote d)) (out_by d r x after)
output_by c r x after no_room h = tt

results_by : (c : Card) (x : Execute) (g : ℕ) (r : List ℕ) (after : Option Tlv) → WrittenBy c (results c x g r after)
unfolding results
results_by c x g r after =
    output_by c r x after _ (either (WrittenBy c) (has_general x) {b = wrote c} (λ _. write_by c (general_number c.run.page x) 0 (g ∷ [])) (λ _. refl))

-- so does a plan
abbrev PlannedBy : Card → Plan → Type 0
PlannedBy c (refuses r) = Prim.Unit {0}
PlannedBy c (does d m) = d.history ≡ c.history
PlannedBy c runs_out = Prim.Unit {0}

unless_by : (c : Card) (a : Complaint) (p : Plan) → PlannedBy c p → PlannedBy c (unless a p)
unfolding unless
unless_by c Nothing p h = h
unless_by c Undefined p h = tt
unless_by c Secured p h = tt
unless_by c Misused p h = tt

storing_by : (c : Card) (m : Move) (w : Written) → WrittenBy c w → PlannedBy c (storing m w)
unfolding storing
storing_by c m (wrote d) h = h
storing_by c m no_room h = tt

branch_by_lem : (c : Card) (r : List ℕ) (t : Target) → PlannedBy c (branch_by c r t)
unfolding branch_by
branch_by_lem c r (Unit k) = refl
branch_by_lem c r Lacking = tt
branch_by_lem c r Other = refl

perform_by : (c : Card) (next : ℕ) (again : Move) (a : Action) → PlannedBy c (perform c next again a)
unfolding perform branch
perform_by c next again Pass = refl
perform_by c next again Next = refl
perform_by c next again Quit = refl
perform_by c next again Back = refl
perform_by c next again Retry = refl
perform_by c next again (Go start stop) = branch_by_lem c _ _

chosen_by : (c : Card) (next : ℕ) (a : Choice) → PlannedBy c (chosen c next a)
unfolding chosen branch
chosen_by c next (Follow start stop) = branch_by_lem c _ _
chosen_by c next Stay = refl
chosen_by c next Unknown = tt

value_by : (c : Card) (next : ℕ) (row : Tlvs) (x : Slot) → PlannedBy c (branch_on_slot c next row x)
unfolding branch_on_slot
value_by c next row free = tt
value_by c next row (held type bytes) = chosen_by c next _

execute_by : (c : Card) (x : Execute) → PlannedBy c (execute c x)
unfolding execute
execute_by c x =
    unless_by c _ _
    (either (PlannedBy c) (allowed c x) (λ _. either (PlannedBy c) (ltb 255 (length (command c x))) {a = refuses Memory} {b = does c (send (command c x))} (λ _. tt) (λ _. refl)) (λ _. tt))

exit_by : (c : Card) (tag start stop : ℕ) → PlannedBy c (exit c tag start stop)
unfolding exit
exit_by c tag start stop =
    either (PlannedBy c) (eqb (attribute c.run.page tag start stop % 2) 1) {a = does c finish} (λ _. refl) (λ _. perform_by c stop finish (handle c.run.page c.run.unit 0x10))

code_by : (c : Card) (tag start stop : ℕ) (b : ByteCode) → PlannedBy c (plan_by c tag start stop b)
unfolding plan_by set_variable get_length branch_on_value
code_by c tag start stop setting_variables = unless_by c _ _ (storing_by c _ _ (set_by _ c))
code_by c tag start stop going_back = refl
code_by c tag start stop branching = unless_by c _ _ (value_by c stop _ _)
code_by c tag start stop exiting = exit_by c tag start stop
code_by c tag start stop executing = execute_by c _
code_by c tag start stop getting_length = unless_by c _ _ (storing_by c _ _ (write_by c _ _ _))
code_by c tag start stop unknown = tt

plan_by_lem : (c : Card) (h : Option Tlv) → PlannedBy c (plan_for c h)
unfolding plan_for
plan_by_lem c (Some h) = code_by c h.tag h.start h.stop (byte_code h.tag)
plan_by_lem c None = tt

with_by : (c : Card) (w : Written) → WrittenBy c w → (p : Plan) → PlannedBy c p → PlannedBy c (with_results w p)
unfolding with_results
with_by c w h (refuses r) q = tt
with_by c w h (does d m) q = storing_by c m w h
with_by c w h runs_out q = tt

answer_by_lem : (c : Card) (g : ℕ) (r : List ℕ) (after h : Option Tlv) → PlannedBy c (answer_for c g r after h)
unfolding answer_for answer_by
answer_by_lem c g r after (Some h) = with_by c _ (results_by c _ g r after) _ (perform_by c _ _ _)
answer_by_lem c g r after None = tt

-- what is done leaves a short history short
module _ (c : Card) (l : Short c) where
  back_short : (r : List ℕ) (t : Target) → Short (back_to c r t).card
  unfolding back_to wanting entered rested with_run with_guard with_temporary with_wanted
  back_short r (Unit k) = l
  back_short r Lacking = l
  back_short r Other = l

go_back_short : (c : Card) → Short c → Short (go_back c).card
unfolding go_back lowered with_history rested with_run with_guard with_temporary
go_back_short c l = either (λ (e : Effect). Short e.card) (eqb c.history.pointer 0) (λ _. l) (λ _. back_short _ l _ _)

moved_short : (c : Card) → Short c → (m : Move) → Short (moved c m).card
unfolding moved placed entered leaving wanting sending marked rested with_run with_guard with_temporary with_wanted with_history with_environment
moved_short c l (onwards p) = l
moved_short c l (jump k) = short_left c.run.page c.run.unit c.history l
moved_short c l (away r) = short_left c.run.page c.run.unit c.history l
moved_short c l back = go_back_short (marked no_error c) l
moved_short c l (send b) = l
moved_short c l finish = l

applied_short : (c : Card) → Short c → (p : Plan) → PlannedBy c p → Short (applied c p).card
unfolding applied failed marked rested with_run with_guard with_temporary with_environment
applied_short c l (refuses r) h = l
applied_short c l (does d m) h = moved_short d (rw h l) m
applied_short c l runs_out h = l

stepped_short : (c : Card) → Short c → Short (stepped c).card
unfolding stepped decide
stepped_short c l = applied_short c l (plan_for c (here c)) (plan_by_lem c (here c))

steps_short : (n k : ℕ) (c : Card) → Short c → Short (steps n k c).last.card
unfolding steps
steps_short zero k c l = l
steps_short (suc n) k c l =
    either (λ (r : Counted). Short r.last.card) (goes_on (stepped c).outcome) (λ _. steps_short n (k + 1) (stepped c).card (stepped_short c l)) (λ _. stepped_short c l)

module _ (c : Card) (l : Short c) where
  admitted_short : (lent fitting : Bool) (refuse : Refusal → Did) (go : Did) → ((r : Refusal) → (refuse r).card ≡ c) → Short go.card → Short (admitted lent c fitting refuse go).card
  unfolding admitted
  admitted_short lent fitting refuse go f g =
      either (λ (d : Did). Short d.card) lent
      (λ _. either (λ (d : Did). Short d.card) (is_card c) (λ _. either (λ (d : Did). Short d.card) fitting (λ _. g) (λ _. rw (f Call) l)) (λ _. rw (f State) l))
      (λ _. rw (f Buffer) l)

  load_short : (s : List ℕ) (j : Result (Prim.Unit {0}) Rejection) → Short (load_by s c j).card
  unfolding load_by started with_run with_wanted with_guard with_temporary
  load_short s (Ok u) = l
  load_short s (Err e) = l

  reply_short : (response buffer : List ℕ) (a : Option Reply) → Short (respond_by response buffer c a).card
  unfolding respond_by respond_done respond_refused answered
  reply_short response buffer (Some a) = applied_short c l (answer_for c a.general response a.after (here c)) (answer_by_lem c a.general response a.after (here c))
  reply_short response buffer None = l

  environment_short : (n : ℕ) (value : List ℕ) → Short (environment_done n value c).card
  unfolding environment_done told_refused with_environment
  environment_short n value =
      either (λ (d : Did). Short d.card) (ltb 0x3F n) (λ _. l)
      (λ _. either (λ (d : Did). Short d.card) (eqb n 5) (λ _. l)
      (λ _. either (λ (d : Did). Short d.card) (ltb longest (length value)) (λ _. l) (λ _. l)))

  pub history_within_16 : (k : Asked) → Short (act k c).card
  unfolding act created told_refused load_refused step_refused step_done run_refused run_done respond_refused rested with_run with_guard with_temporary
  history_within_16 create = omega arith
  history_within_16 (set_environment n value) = admitted_short true (cond (runs c) false true) (told_refused c) (environment_done n value c) (λ r. refl) (environment_short n value)
  history_within_16 (load s) = admitted_short true (cond (runs c) false true) (load_refused c) (load_by s c (judge s)) (λ r. refl) (load_short s (judge s))
  history_within_16 (step buffer) = admitted_short (lends buffer) (ready c) (step_refused buffer c) (step_done buffer c (stepped c)) (λ r. refl) (stepped_short c l)
  history_within_16 (run_up_to n buffer) = admitted_short (lends buffer) (ready c) (run_refused buffer c) (run_done buffer (steps n 0 c)) (λ r. refl) (steps_short n 0 c l)
  history_within_16 (respond response buffer) = admitted_short (lends buffer) (waiting c) (respond_refused buffer c) (respond_by response buffer c (reply response)) (λ r. refl) (reply_short response buffer (reply response))
  history_within_16 end = admitted_short true (runs c) (told_refused c) _ (λ r. refl) l
  history_within_16 (read_variable n id) = l
