-- Where a step leads, and the plan of the rules that this stands for.
use Rattle.std.specs.Prelude.{ℕ, ◌+◌, ◌≤◌, ◌%◌, true, false, cond, List, [], length, get_or, ltb, eqb, Option, Some, None, Result, Ok, Err}
use Rattle.rules.specs.Bytes.{part}
use Rattle.rules.specs.Tlv.{head_at}
use Rattle.rules.specs.Tlvs.{tlvs}
use Rattle.rules.specs.Pieces.{named}
use Rattle.rules.specs.Shape.{attribute}
use Rattle.rules.specs.Page.{service, code_at}
use Rattle.rules.specs.Reference.{target}
use Rattle.rules.specs.Handler.{handle}
use Rattle.rules.specs.Card.{Card}
use Rattle.rules.specs.Store.{area, writing_in, worse, write}
use Rattle.rules.specs.Value.{complaint, joined, shortest}
use Rattle.rules.specs.Command.{execute_of, execute_complaint, allowed, command}
use Rattle.rules.specs.Step.{Plan, refuses, does, runs_out, onwards, jump, away, back, send, finish, storing, setting_complaint, set_all, ByteCode, setting_variables, going_back, branching, exiting, executing, getting_length, unknown, byte_code}
use Rattle.rules.specs.declared.Complaint.{Complaint}
use Rattle.rules.specs.declared.Complaint.TheVariants.{Nothing, Undefined, Secured, Misused}
use Rattle.rules.specs.declared.Refusal.TheVariants.{Syntax, Variable, Anchor, Memory, Security, Disallowed}
use Rattle.rules.specs.declared.Target.{Target}
use Rattle.rules.specs.declared.Target.TheVariants.{Unit as UnitAt, Lacking, Other}
use Rattle.rules.specs.declared.Action.{Action}
use Rattle.rules.specs.declared.Action.TheVariants.{Pass, Next, Quit, Back as GoBack, Retry, Go}
use Rattle.branching.specs.Branch.{branch_choice}
use Rattle.ways.specs.declared.Way.{Way}
use Rattle.ways.specs.declared.Way.TheVariants.{Enter, Place, End, Refuse, Away, Back, Store, Length, Send}
use Rattle.rules.specs.declared.Tlv.{Tlv}
use Rattle.rules.specs.declared.Span.{Span}
use Rattle.rules.specs.declared.Refusal.{Refusal}

-- a command of a tag and its value
abbrev pub send_tlv : ℕ → ℕ → ℕ → Way
send_tlv tag start stop = Send (record { tag = tag; start = start; stop = stop })

-- by the reference from a place up to another
unfoldable pub way_to : ℕ → ℕ → Target → Way
way_to start stop (UnitAt k) = Enter k
way_to start stop Lacking = Refuse Anchor
way_to start stop Other = Away start stop

-- 8.5
unfoldable pub branch_way : List ℕ → ℕ → Result (Option Span) Refusal → Way
branch_way s next (Err r) = Refuse r
branch_way s next (Ok None) = Place next
branch_way s next (Ok (Some p)) = way_to p.from p.end (target s (part s p.from p.end))

-- 8.6: with no command in hand a retry ends the page
unfoldable pub action_way : List ℕ → ℕ → Action → Way
action_way s next Pass = End true
action_way s next Next = Place next
action_way s next Quit = End true
action_way s next GoBack = Back
action_way s next Retry = End true
action_way s next (Go start stop) = way_to start stop (target s (part s start stop))

unfoldable pub exit_way : List ℕ → ℕ → ℕ → ℕ → ℕ → Way
exit_way s unit tag start stop =
    cond (eqb (attribute s tag start stop % 2) 1) (End true) (action_way s stop (handle s unit 0x10))

-- 16, 19 and 17 go before what else may be refused
unfoldable pub unless_way : Complaint → Way → Way
unless_way Nothing w = w
unless_way Undefined w = Refuse Variable
unless_way Secured w = Refuse Security
unless_way Misused w = Refuse Syntax

-- 8.9: a number, and the list from a place up to another
unfoldable pub length_way : Card → ℕ → ℕ → ℕ → ℕ → Way
length_way c n from to stop =
    unless_way (worse (writing_in (service c.run.page) (area n)) (complaint c [] (named (part c.run.page from to)))) (Length n from to stop)

unfoldable pub list_way : Card → ℕ → ℕ → Option Tlv → Way
list_way c n stop (Some h) = length_way c n h.start h.stop stop
list_way c n stop None = length_way c n 0 0 stop

-- 8.7
unfoldable pub send_way : Card → ℕ → ℕ → ℕ → Way
send_way c tag start stop =
    let x = execute_of c.run.page tag start stop in
    unless_way (execute_complaint c x) (cond (allowed c x) (send_tlv tag start stop) (Refuse Disallowed))

unfoldable pub way_by : Card → ℕ → ℕ → ℕ → ℕ → ByteCode → Way
way_by c unit tag start stop setting_variables = unless_way (setting_complaint c [] (tlvs 1 c.run.page start stop)) (Store start stop)
way_by c unit tag start stop going_back = Back
way_by c unit tag start stop branching = branch_way c.run.page stop (branch_choice c start stop)
way_by c unit tag start stop exiting = exit_way c.run.page unit tag start stop
way_by c unit tag start stop executing = send_way c tag start stop
way_by c unit tag start stop getting_length = list_way c (get_or c.run.page start 0) stop (head_at c.run.page (start + 1) stop)
way_by c unit tag start stop unknown = Refuse Syntax

unfoldable pub code_way : Card → ℕ → Option Tlv → Way
code_way c unit (Some h) = way_by c unit h.tag h.start h.stop (byte_code h.tag)
code_way c unit None = End false

-- the step of a card that shows no more than c does, at a place of a unit
unfoldable pub way_at : Card → ℕ → ℕ → Way
way_at c unit place = code_way c unit (code_at c.run.page unit place)

-- 18 for a command of more than 255 bytes
unfoldable pub issued : Card → List ℕ → Plan
issued c b = cond (ltb 255 (length b)) (refuses Memory) (does c (send b))

-- the plan that a way stands for
unfoldable pub plan_of : Card → Way → Plan
plan_of c (Enter k) = does c (jump k)
plan_of c (Place q) = does c (onwards q)
plan_of c (End true) = does c finish
plan_of c (End false) = runs_out
plan_of c (Refuse r) = refuses r
plan_of c (Away start stop) = does c (away (part c.run.page start stop))
plan_of c Back = does c back
plan_of c (Store start stop) = storing (onwards stop) (set_all (tlvs 1 c.run.page start stop) c)
plan_of c (Length n from to stop) = storing (onwards stop) (write c n 3 (shortest (length (joined c (named (part c.run.page from to))))))
plan_of c (Send v) = issued c (command c (execute_of c.run.page v.tag v.start v.stop))

-- the places that a way names lie in a page of a length
abbrev pub Inside : ℕ → Way → Type 0
Inside n (Enter k) = Unit {0}
Inside n (Place p) = Unit {0}
Inside n (End done) = Unit {0}
Inside n (Refuse r) = Unit {0}
Inside n (Away start stop) = Unit {0}
Inside n Back = Unit {0}
Inside n (Store start stop) = (start ≤ stop) × (stop ≤ n)
Inside n (Length number from to stop) = to ≤ n
Inside n (Send v) = (v.start ≤ v.stop) × (v.stop ≤ n)

-- the reference to another page has at most 65 bytes
abbrev pub Short : List ℕ → Way → Type 0
Short s (Enter k) = Unit {0}
Short s (Place p) = Unit {0}
Short s (End done) = Unit {0}
Short s (Refuse r) = Unit {0}
Short s (Away start stop) = length (part s start stop) ≤ 65
Short s Back = Unit {0}
Short s (Store start stop) = Unit {0}
Short s (Length number from to stop) = Unit {0}
Short s (Send v) = Unit {0}
