-- One step (clause 8), in two parts: what the byte code asks, and what is then done.
use Rattle.std.specs.Prelude.{ℕ, ◌+◌, ◌-◌, ◌%◌, Bool, true, false, cond, List, [], ◌∷◌, length, get_or, set, ltb, eqb, Option, Some, None}
use Rattle.rules.specs.Bytes.{same, part}
use Rattle.rules.specs.Numbers.{code, no_error}
use Rattle.rules.specs.Tlv.{head_at}
use Rattle.rules.specs.Tlvs.{Tlvs, done, past, tlv, tlvs, plain}
use Rattle.rules.specs.Pieces.{Pieces, full, cut, text, variable, named}
use Rattle.rules.specs.Shape.{attribute}
use Rattle.rules.specs.Page.{service, code_at, entry_of}
use Rattle.rules.specs.Reference.{target}
use Rattle.rules.specs.Handler.{handle}
use Rattle.rules.specs.Card.{Slot, free, held, Card, empty, by_code, in_hand, with_environment, with_history, with_run, with_wanted}
use Rattle.rules.specs.Store.{area, unserved, read, writing, worse, Written, wrote, no_room, write}
use Rattle.rules.specs.Value.{pieces_of, complaint, joined, type_for, shortest}
use Rattle.rules.specs.Keep.{rested}
use Rattle.rules.specs.Trail.{left, last, lowered}
use Rattle.rules.specs.Command.{Execute, execute_of, execute_complaint, allowed, command, results}
use Rattle.rules.specs.declared.Target.{Target}
use Rattle.rules.specs.declared.Target.TheVariants.{Unit, Lacking, Other}
use Rattle.rules.specs.declared.Action.{Action}
use Rattle.rules.specs.declared.Action.TheVariants.{Pass, Next, Quit, Back, Retry, Go}
use Rattle.rules.specs.declared.Choice.{Choice}
use Rattle.rules.specs.declared.Choice.TheVariants.{Follow, Stay, Unknown}
use Rattle.rules.specs.declared.Complaint.{Complaint}
use Rattle.rules.specs.declared.Complaint.TheVariants.{Nothing, Undefined, Secured, Misused}
use Rattle.rules.specs.declared.Refusal.{Refusal}
use Rattle.rules.specs.declared.Refusal.TheVariants.{Syntax, Variable, Anchor, Memory, Security, Disallowed}
use Rattle.rules.specs.declared.Outcome.{Outcome}
use Rattle.rules.specs.declared.Outcome.TheVariants.{On, Command, Page, Ended, Refused}
use Rattle.rules.specs.declared.Tlv.{Tlv}

-- where a byte code leads: to a place of its unit, to a unit of its page, to another page, back, to the terminal, or to the page's end
pub data Move : Type 0 where
  onwards : ℕ → Move
  jump : ℕ → Move
  away : List ℕ → Move
  back : Move
  send : List ℕ → Move
  finish : Move

-- what a step asks: a refusal, or the card with its writes and a move; or, at a unit's end, that the page ends
pub data Plan : Type 0 where
  refuses : Refusal → Plan
  does : Card → Move → Plan
  runs_out : Plan

-- 16, 19, 17 go before what else may be refused
unfoldable pub unless : Complaint → Plan → Plan
unless Nothing p = p
unless Undefined p = refuses Variable
unless Secured p = refuses Security
unless Misused p = refuses Syntax

-- 18 where a write found no room
unfoldable pub storing : Move → Written → Plan
storing m (wrote c) = does c m
storing m no_room = refuses Memory

-- a branch: to a unit of the page, 17 for an anchor of its own that it lacks, or to another page
unfoldable pub branch_by : Card → List ℕ → Target → Plan
branch_by c r (Unit k) = does c (jump k)
branch_by c r Lacking = refuses Anchor
branch_by c r Other = does c (away r)

unfoldable pub branch : Card → List ℕ → Plan
branch c r = branch_by c r (target c.run.page r)

-- what the handler's action does; `again` is what a retry does
unfoldable pub perform : Card → ℕ → Move → Action → Plan
perform c next again Pass = does c finish
perform c next again Next = does c (onwards next)
perform c next again Quit = does c finish
perform c next again Back = does c back
perform c next again Retry = does c again
perform c next again (Go start stop) = branch c (part c.run.page start stop)

-- 8.1 Set Variable: the number of a pair stands before its TLV
unfoldable pub number_before : Card → ℕ → ℕ
number_before c at = get_or c.run.page (at - 1) 0

-- 16, 19 and 17 over all pairs; the number of an earlier pair counts as defined
unfoldable pub setting_complaint : Card → List ℕ → Tlvs → Complaint
setting_complaint c known (done p) = Nothing
setting_complaint c known (past p) = Nothing
setting_complaint c known (tlv tag at start stop rest) =
    worse (worse (writing c (number_before c at)) (complaint c known (pieces_of c.run.page tag start stop)))
    (setting_complaint c (number_before c at ∷ known) rest)

unfoldable pub then_set : (Card → Written) → Written → Written
then_set rest (wrote c) = rest c
then_set rest no_room = no_room

-- the pairs in turn: a later one sees what an earlier one wrote
unfoldable pub set_all : Tlvs → Card → Written
set_all (done p) c = wrote c
set_all (past p) c = wrote c
set_all (tlv tag at start stop rest) c =
    then_set (λ d. set_all rest d) (write c (number_before c at) (type_for c tag start stop) (joined c (pieces_of c.run.page tag start stop)))

unfoldable pub set_variable : Card → ℕ → ℕ → Plan
set_variable c start stop =
    let row = tlvs 1 c.run.page start stop in
    unless (setting_complaint c [] row) (storing (onwards stop) (set_all row c))

-- 8.9 Get Length: the length of all contents together, in BER form and binary
unfoldable pub list_at : Card → Option Tlv → Pieces
list_at c (Some h) = named (part c.run.page h.start h.stop)
list_at c None = full

unfoldable pub get_length : Card → ℕ → ℕ → Plan
get_length c start stop =
    let list = list_at c (head_at c.run.page (start + 1) stop) in
    let n = get_or c.run.page start 0 in
    unless (worse (writing c n) (complaint c [] list)) (storing (onwards stop) (write c n 3 (shortest (length (joined c list)))))

-- 8.5 Branch On Variable Value. Only the first number of a case's list counts.
unfoldable pub case_value : List ℕ → ℕ → ℕ → ℕ → Pieces
case_value s tag start stop = cond (eqb tag 0x0D) (variable (get_or s start 0) full) (pieces_of s tag start stop)

-- 19 for the variables that a value names
unfoldable pub secured_in : List ℕ → Pieces → Complaint
secured_in id full = Nothing
secured_in id cut = Nothing
secured_in id (text from to rest) = secured_in id rest
secured_in id (variable n rest) = worse (unserved id (area n)) (secured_in id rest)

-- 16 where a case's list is empty, else 19
unfoldable pub case_complaint : List ℕ → Option Tlv → Complaint
case_complaint s (Some h) =
    cond (eqb h.tag 0x0D) (cond (ltb h.start h.stop) (secured_in (service s) (case_value s h.tag h.start h.stop)) Misused) (secured_in (service s) (case_value s h.tag h.start h.stop))
case_complaint s None = Nothing

-- over the whole byte code
unfoldable pub cases_complaint : List ℕ → Tlvs → Complaint
cases_complaint s (done p) = Nothing
cases_complaint s (past p) = Nothing
cases_complaint s (tlv tag at start stop rest) =
    worse (cond (eqb tag 0x11) (case_complaint s (head_at s start stop)) Nothing) (cases_complaint s rest)

-- 7.9: the anchor reference in a page reference
unfoldable pub follow : Option Tlv → Choice
follow (Some h) = Follow h.start h.stop
follow None = Stay

unfoldable pub follow_in : List ℕ → Option Tlv → Choice
follow_in s (Some h) = follow (head_at s h.start h.stop)
follow_in s None = Stay

unfoldable pub is_undefined : Complaint → Bool
is_undefined Nothing = false
is_undefined Undefined = true
is_undefined Secured = false
is_undefined Misused = false

-- a case matches where its value equals the variable's in length and bytes; `stop` is the case's end, and its page reference stands last
unfoldable pub case_choice : Card → List ℕ → ℕ → Choice → Option Tlv → Choice
case_choice c bytes stop rest (Some h) =
    let value = case_value c.run.page h.tag h.start h.stop in
    cond (is_undefined (complaint c [] value)) Unknown
    (cond (same (joined c value) bytes) (follow_in c.run.page (head_at c.run.page h.stop stop)) rest)
case_choice c bytes stop rest None = rest

-- the first match, or the page reference behind the cases, or no branch
unfoldable pub choose : Card → List ℕ → Tlvs → Choice
choose c bytes (done p) = Stay
choose c bytes (past p) = Stay
choose c bytes (tlv tag at start stop rest) =
    cond (eqb tag 0x12) (follow (head_at c.run.page start stop))
    (case_choice c bytes stop (choose c bytes rest) (head_at c.run.page start stop))

unfoldable pub chosen : Card → ℕ → Choice → Plan
chosen c next (Follow start stop) = branch c (part c.run.page start stop)
chosen c next Stay = does c (onwards next)
chosen c next Unknown = refuses Variable

unfoldable pub branch_on_slot : Card → ℕ → Tlvs → Slot → Plan
branch_on_slot c next row free = refuses Variable
branch_on_slot c next row (held type bytes) = chosen c next (choose c bytes row)

unfoldable pub branch_on_value : Card → ℕ → ℕ → Plan
branch_on_value c start stop =
    let s = c.run.page in
    let n = get_or s start 0 in
    let row = tlvs 0 s (start + 1) stop in
    unless (worse (unserved (service s) (area n)) (cases_complaint s row)) (branch_on_slot c stop row (read c n))

-- 8.6 Exit: with TerminateSession (bit 1) the page ends, else the handler is asked for '10'. No command is in hand, so a retry ends the page.
unfoldable pub exit : Card → ℕ → ℕ → ℕ → Plan
exit c tag start stop =
    cond (eqb (attribute c.run.page tag start stop % 2) 1) (does c finish)
    (perform c stop finish (handle c.run.page c.run.unit 0x10))

-- 8.7 Execute USAT Command: 22 and then 18 stand after 16, 19 and 17
unfoldable pub execute : Card → Execute → Plan
execute c x =
    unless (execute_complaint c x)
    (cond (allowed c x) (cond (ltb 255 (length (command c x))) (refuses Memory) (does c (send (command c x)))) (refuses Disallowed))

-- the byte codes of the base
pub data ByteCode : Type 0 where
  setting_variables : ByteCode
  going_back : ByteCode
  branching : ByteCode
  exiting : ByteCode
  executing : ByteCode
  getting_length : ByteCode
  unknown : ByteCode

unfoldable pub byte_code : ℕ → ByteCode
byte_code tag =
    cond (eqb tag 0x40) setting_variables
    (cond (eqb (plain tag) 0x43) going_back
    (cond (eqb tag 0x44) branching
    (cond (eqb (plain tag) 0x45) exiting
    (cond (eqb (plain tag) 0x46) executing
    (cond (eqb tag 0x48) getting_length unknown)))))

-- No accepted page has another byte code.
unfoldable pub plan_by : Card → ℕ → ℕ → ℕ → ByteCode → Plan
plan_by c tag start stop setting_variables = set_variable c start stop
plan_by c tag start stop going_back = does c back
plan_by c tag start stop branching = branch_on_value c start stop
plan_by c tag start stop exiting = exit c tag start stop
plan_by c tag start stop executing = execute c (execute_of c.run.page tag start stop)
plan_by c tag start stop getting_length = get_length c start stop
plan_by c tag start stop unknown = refuses Syntax

unfoldable pub plan_for : Card → Option Tlv → Plan
plan_for c (Some h) = plan_by c h.tag h.start h.stop (byte_code h.tag)
plan_for c None = runs_out

-- the byte code at the card's place
unfoldable pub here : Card → Option Tlv
here c = code_at c.run.page c.run.unit c.run.place

unfoldable pub decide : Card → Plan
decide c = plan_for c (here c)

-- a response: the handler's branch may be refused by 17, then the results by 18
unfoldable pub with_results : Written → Plan → Plan
with_results w (refuses r) = refuses r
with_results w (does c m) = storing m w
with_results w runs_out = runs_out

unfoldable pub answer_by : Card → Execute → ℕ → List ℕ → Option Tlv → Plan
answer_by c x g r after =
    with_results (results c x g r after) (perform c x.stop (send (in_hand c.run.hand)) (handle c.run.page c.run.unit g))

unfoldable pub answer_for : Card → ℕ → List ℕ → Option Tlv → Option Tlv → Plan
answer_for c g r after (Some h) = answer_by c (execute_of c.run.page h.tag h.start h.stop) g r after
answer_for c g r after None = runs_out

-- what a step or a response comes to
pub record Effect : Type 0 where
  pub outcome : Outcome
  pub card : Card

abbrev pub effect : Outcome → Card → Effect
effect o c = record { outcome = o; card = c }

-- 12.1: variable '05' holds the code of the last byte code, in binary
unfoldable pub marked : List ℕ → Card → Card
marked bytes c = with_environment c (set c.environment 5 (held 3 bytes))

-- the page goes on at a place of its unit, or at another unit
unfoldable pub placed : Card → ℕ → Card
placed c p = with_run c (record { page = c.run.page; unit = c.run.unit; place = p; hand = empty })

unfoldable pub entered : Card → ℕ → Card
entered c k = with_run c (record { page = c.run.page; unit = k; place = entry_of c.run.page k; hand = empty })

unfoldable pub sending : Card → List ℕ → Card
sending c b = with_run c (record { page = c.run.page; unit = c.run.unit; place = c.run.place; hand = by_code b })

-- the unit is left by a branch
unfoldable pub leaving : Card → Card
leaving c = with_history c (left c.run.page c.run.unit c.history)

-- another page is wanted: its reference stays until a page is accepted
unfoldable pub wanting : Card → List ℕ → Effect
wanting c r = effect Page (rested (with_wanted c r))

-- 4.6: back to a unit of this page, or to a page that has to be fetched
unfoldable pub back_to : Card → List ℕ → Target → Effect
back_to c r (Unit k) = effect On (entered c k)
back_to c r Lacking = wanting c r
back_to c r Other = wanting c r

-- with nothing to return to the page ends as Exit does (House)
unfoldable pub go_back : Card → Effect
go_back c =
    cond (eqb c.history.pointer 0) (effect Ended (rested c))
    (back_to (with_history c (lowered c.history)) (last c.history) (target c.run.page (last c.history)))

unfoldable pub moved : Card → Move → Effect
moved c (onwards p) = effect On (placed (marked no_error c) p)
moved c (jump k) = effect On (entered (leaving (marked no_error c)) k)
moved c (away r) = wanting (leaving (marked no_error c)) r
moved c back = go_back (marked no_error c)
moved c (send b) = effect (Command (length b)) (sending c b)
moved c finish = effect Ended (rested (marked no_error c))

-- a refused step: '05', the keep rule, and no page runs
unfoldable pub failed : Refusal → Card → Card
failed r c = rested (marked (code r) c)

unfoldable pub applied : Card → Plan → Effect
applied c (refuses r) = effect (Refused r) (failed r c)
applied c (does w m) = moved w m
applied c runs_out = effect Ended (rested c)

unfoldable pub stepped : Card → Effect
stepped c = applied c (decide c)

unfoldable pub answered : Card → ℕ → List ℕ → Option Tlv → Effect
answered c g r after = applied c (answer_for c g r after (here c))
