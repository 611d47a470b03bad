-- The way of a card's step stands for its plan.
-- Assumes nothing.
use Prim.Native.Nat.{ℕ, ◌+◌, ◌%◌}
use mathlib.Core.Bool.{Bool, true, false, cond}
use mathlib.Core.List.{List, []}
use mathlib.Core.Path.{◌≡◌, refl, ap, ◌∙◌}
use lib.ListN.{length, get_or}
use lib.Dec.{eqb}
use Rattle.rules.specs.declared.Target.{Target}
use Rattle.rules.specs.declared.Target.TheVariants.{Unit as UnitAt, Lacking, Other}
use Rattle.rules.specs.declared.Action.{Action}
use Rattle.rules.specs.declared.Action.TheVariants.{Pass, Next, Quit, Back as GoBack, Retry, Go}
use Rattle.rules.specs.declared.Complaint.{Complaint}
use Rattle.rules.specs.declared.Complaint.TheVariants.{Nothing, Undefined, Secured, Misused}
use Rattle.rules.specs.declared.Refusal.TheVariants.{Disallowed}
use Rattle.rules.specs.Bytes.{part}
use Rattle.rules.specs.Tlv.{head_at}
use Rattle.rules.specs.Tlvs.{tlvs}
use Rattle.rules.specs.Pieces.{full, named}
use Rattle.rules.specs.Shape.{attribute}
use Rattle.rules.specs.Page.{service, code_at}
use Rattle.rules.specs.Reference.{target}
use Rattle.rules.specs.Handler.{handle}
use Rattle.rules.specs.Card.{Card}
use Rattle.rules.specs.Store.{area, writing_in, writing, worse, write}
use Rattle.rules.specs.Value.{complaint, joined, shortest}
use Rattle.rules.specs.Command.{execute_of, execute_complaint, allowed, command}
use Rattle.rules.specs.Step.{Plan, refuses, does, unless, onwards, finish, branch_by, branch, perform, storing, setting_complaint, set_all, set_variable, list_at, get_length, exit, execute, ByteCode, setting_variables, going_back, branching, exiting, executing, getting_length, unknown, byte_code, plan_by, plan_for, here, decide}
use Rattle.variable.specs.View.{seen, bare, view}
use Rattle.value.proofs.Bare.{bare_complaint}
use Rattle.execute.proofs.Bare.{bare_execute, bare_allowed}
use Rattle.branching.specs.Branch.{branch_choice, taken_on}
use Rattle.branching.proofs.Taken.{branch_taken}
use Rattle.storing.proofs.StoreLaws.{bare_setting}
use Rattle.ways.specs.declared.Way.{Way}
use Rattle.ways.specs.declared.Way.TheVariants.{End, Refuse, Store, Length}
use Rattle.ways.specs.Way.{send_tlv, way_to, branch_way, action_way, exit_way, unless_way, length_way, list_way, send_way, way_by, code_way, way_at, issued, plan_of}
use Rattle.std.specs.Prelude.{Option, Some, None, Result, Ok, Err}
use Rattle.rules.specs.declared.Tlv.{Tlv}
use Rattle.rules.specs.declared.Span.{Span}
use Rattle.rules.specs.declared.Refusal.{Refusal}

to_plan : (c : Card) (start stop : ℕ) (t : Target) → branch_by c (part c.run.page start stop) t ≡ plan_of c (way_to start stop t)
unfolding way_to branch_by plan_of
to_plan c start stop (UnitAt k) = refl
to_plan c start stop Lacking = refl
to_plan c start stop Other = refl

taken_plan : (c : Card) (next : ℕ) (b : Result (Option Span) Refusal) → taken_on c next b ≡ plan_of c (branch_way c.run.page next b)
unfolding taken_on branch_way plan_of branch
taken_plan c next (Err r) = refl
taken_plan c next (Ok None) = refl
taken_plan c next (Ok (Some p)) = to_plan c p.from p.end (target c.run.page (part c.run.page p.from p.end))

action_plan : (c : Card) (next : ℕ) (a : Action) → perform c next finish a ≡ plan_of c (action_way c.run.page next a)
unfolding perform action_way plan_of branch
action_plan c next Pass = refl
action_plan c next Next = refl
action_plan c next Quit = refl
action_plan c next GoBack = refl
action_plan c next Retry = refl
action_plan c next (Go start stop) = to_plan c start stop (target c.run.page (part c.run.page start stop))

exit_by : (c : Card) (stop : ℕ) (a : Action) (b : Bool) → cond b (does c finish) (perform c stop finish a) ≡ plan_of c (cond b (End true) (action_way c.run.page stop a))
unfolding plan_of
exit_by c stop a true = refl
exit_by c stop a false = action_plan c stop a

exit_plan : (c : Card) (tag start stop : ℕ) → exit c tag start stop ≡ plan_of c (exit_way c.run.page c.run.unit tag start stop)
unfolding exit exit_way
exit_plan c tag start stop = exit_by c stop (handle c.run.page c.run.unit 0x10) (eqb (attribute c.run.page tag start stop % 2) 1)

unless_plan : (c : Card) (w : Complaint) (p : Plan) (v : Way) → p ≡ plan_of c v → unless w p ≡ plan_of c (unless_way w v)
unfolding unless unless_way plan_of
unless_plan c Nothing p v e = e
unless_plan c Undefined p v e = refl
unless_plan c Secured p v e = refl
unless_plan c Misused p v e = refl

store_plan : (c : Card) (start stop : ℕ) → storing (onwards stop) (set_all (tlvs 1 c.run.page start stop) c) ≡ plan_of c (Store start stop)
unfolding plan_of
store_plan c start stop = refl

count_plan : (c : Card) (n from to stop : ℕ) → storing (onwards stop) (write c n 3 (shortest (length (joined c (named (part c.run.page from to)))))) ≡ plan_of c (Length n from to stop)
unfolding plan_of
count_plan c n from to stop = refl

-- no list is an empty one
no_list : (s : List ℕ) → named (part s 0 0) ≡ full
unfolding named part
no_list s = refl

set_plan : (c : Card) (start stop : ℕ) → set_variable c start stop ≡ plan_of c (unless_way (setting_complaint (bare c) [] (tlvs 1 c.run.page start stop)) (Store start stop))
unfolding set_variable
set_plan c start stop =
    rw (bare_setting c [] (tlvs 1 c.run.page start stop)) (unless_plan c (setting_complaint c [] (tlvs 1 c.run.page start stop)) (storing (onwards stop) (set_all (tlvs 1 c.run.page start stop) c)) (Store start stop) (store_plan c start stop))

length_plan : (c : Card) (n from to stop : ℕ) → unless (worse (writing c n) (complaint c [] (named (part c.run.page from to)))) (storing (onwards stop) (write c n 3 (shortest (length (joined c (named (part c.run.page from to))))))) ≡ plan_of c (length_way (bare c) n from to stop)
unfolding length_way writing bare seen
length_plan c n from to stop =
    let w = worse (writing_in (service c.run.page) (area n)) (complaint c [] (named (part c.run.page from to))) in
    rw (bare_complaint c [] (named (part c.run.page from to))) (unless_plan c w (storing (onwards stop) (write c n 3 (shortest (length (joined c (named (part c.run.page from to))))))) (Length n from to stop) (count_plan c n from to stop))

list_plan : (c : Card) (n stop : ℕ) (h : Option Tlv) → unless (worse (writing c n) (complaint c [] (list_at c h))) (storing (onwards stop) (write c n 3 (shortest (length (joined c (list_at c h)))))) ≡ plan_of c (list_way (bare c) n stop h)
unfolding list_way list_at
list_plan c n stop (Some h) = length_plan c n h.start h.stop stop
list_plan c n stop None = rw (← no_list c.run.page) (length_plan c n 0 0 stop)

allowed_plan : (c : Card) (tag start stop : ℕ) (b : Bool) → cond b (issued c (command c (execute_of c.run.page tag start stop))) (refuses Disallowed) ≡ plan_of c (cond b (send_tlv tag start stop) (Refuse Disallowed))
unfolding plan_of
allowed_plan c tag start stop true = refl
allowed_plan c tag start stop false = refl

send_plan : (c : Card) (tag start stop : ℕ) → execute c (execute_of c.run.page tag start stop) ≡ plan_of c (send_way (bare c) tag start stop)
unfolding execute send_way issued bare seen
send_plan c tag start stop =
    let x = execute_of c.run.page tag start stop in
    rw (bare_execute c x, bare_allowed c x) (unless_plan c (execute_complaint c x) (cond (allowed c x) (issued c (command c x)) (refuses Disallowed)) (cond (allowed c x) (send_tlv tag start stop) (Refuse Disallowed)) (allowed_plan c tag start stop (allowed c x)))

code_plan : (c : Card) (tag start stop : ℕ) (k : ByteCode) → plan_by c tag start stop k ≡ plan_of c (way_by (bare c) c.run.unit tag start stop k)
unfolding plan_by way_by get_length plan_of bare seen
code_plan c tag start stop setting_variables = set_plan c start stop
code_plan c tag start stop going_back = refl
code_plan c tag start stop branching = branch_taken c start stop ∙ taken_plan c stop (branch_choice (bare c) start stop)
code_plan c tag start stop exiting = exit_plan c tag start stop
code_plan c tag start stop executing = send_plan c tag start stop
code_plan c tag start stop getting_length = list_plan c (get_or c.run.page start 0) stop (head_at c.run.page (start + 1) stop)
code_plan c tag start stop unknown = refl

head_plan : (c : Card) (h : Option Tlv) → plan_for c h ≡ plan_of c (code_way (bare c) c.run.unit h)
unfolding plan_for code_way plan_of
head_plan c (Some h) = code_plan c h.tag h.start h.stop (byte_code h.tag)
head_plan c None = refl

own_plan : (c : Card) → decide c ≡ plan_of c (way_at (bare c) c.run.unit c.run.place)
unfolding decide here way_at bare seen
own_plan c = head_plan c (code_at c.run.page c.run.unit c.run.place)

pub way_same : (c : Card) (page env temp perm : List ℕ) (unit place : ℕ) → bare c ≡ view page env temp perm → c.run.unit ≡ unit → c.run.place ≡ place → way_at (bare c) c.run.unit c.run.place ≡ way_at (view page env temp perm) unit place
way_same c page env temp perm unit place e f g = rw (e, f, g) refl

pub way_plan : (c : Card) (page env temp perm : List ℕ) (unit place : ℕ) → bare c ≡ view page env temp perm → c.run.unit ≡ unit → c.run.place ≡ place → decide c ≡ plan_of c (way_at (view page env temp perm) unit place)
way_plan c page env temp perm unit place e f g = own_plan c ∙ ap (plan_of c) (way_same c page env temp perm unit place e f g)
