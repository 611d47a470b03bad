-- The places that a way names lie in its page.
-- Assumes nothing.
use Prim.Native.Nat.{ℕ, ◌+◌, ◌≤◌, ◌%◌}
use mathlib.Core.Bool.{Bool, true, false, cond}
use mathlib.Core.List.{List, []}
use mathlib.Core.Path.{◌≡◌, refl}
use native.Mathlib.Omega.{arith}
use lib.ListN.{length, get_or}
use lib.Dec.{eqb}
use Rattle.rules.specs.declared.Target.{Target}
use Rattle.rules.specs.declared.Target.TheVariants.{Unit as UnitAt, Lacking, Other}
use Rattle.rules.specs.declared.Action.{Action}
use Rattle.rules.specs.declared.Action.TheVariants.{Pass, Next, Quit, Back as GoBack, Retry, Go}
use Rattle.rules.specs.declared.Refusal.TheVariants.{Disallowed}
use Rattle.rules.specs.declared.Complaint.{Complaint}
use Rattle.rules.specs.declared.Complaint.TheVariants.{Nothing, Undefined, Secured, Misused}
use Rattle.rules.specs.Bytes.{part}
use Rattle.rules.specs.Tlv.{head_at}
use Rattle.rules.specs.Tlvs.{tlvs}
use Rattle.rules.specs.Pieces.{named}
use Rattle.rules.specs.Shape.{attribute}
use Rattle.rules.specs.Page.{service, code_at}
use Rattle.rules.specs.Reference.{target}
use Rattle.rules.specs.Handler.{handle}
use Rattle.rules.specs.Card.{Card}
use Rattle.rules.specs.Store.{area, writing_in, worse}
use Rattle.rules.specs.Value.{complaint}
use Rattle.rules.specs.Command.{execute_of, execute_complaint, allowed}
use Rattle.rules.specs.Step.{setting_complaint, ByteCode, setting_variables, going_back, branching, exiting, executing, getting_length, unknown, byte_code}
use Rattle.rules.proofs.IsolationRows.{tlv_in}
use Rattle.variable.specs.View.{seen, view}
use Rattle.unit.proofs.Units.{code_tlv}
use Rattle.branching.specs.Branch.{branch_choice}
use Rattle.ways.specs.declared.Way.{Way}
use Rattle.ways.specs.declared.Way.TheVariants.{End, Refuse, Store, Length}
use Rattle.ways.specs.Way.{send_tlv, way_to, branch_way, action_way, exit_way, unless_way, length_way, list_way, send_way, way_by, code_way, way_at, Inside}
use Rattle.std.specs.Prelude.{Option, Some, None, Result, Ok, Err}
use Rattle.rules.specs.declared.Tlv.{Tlv}
use Rattle.rules.specs.declared.Span.{Span}
use Rattle.rules.specs.declared.Refusal.{Refusal}

cond_inside : (n : ℕ) (b : Bool) (v w : Way) → Inside n v → Inside n w → Inside n (cond b v w)
cond_inside n true v w x y = x
cond_inside n false v w x y = y

to_inside : (n start stop : ℕ) (t : Target) → Inside n (way_to start stop t)
unfolding way_to
to_inside n start stop (UnitAt k) = tt
to_inside n start stop Lacking = tt
to_inside n start stop Other = tt

branch_inside : (n : ℕ) (s : List ℕ) (next : ℕ) (b : Result (Option Span) Refusal) → Inside n (branch_way s next b)
unfolding branch_way
branch_inside n s next (Err r) = tt
branch_inside n s next (Ok None) = tt
branch_inside n s next (Ok (Some p)) = to_inside n p.from p.end (target s (part s p.from p.end))

action_inside : (n : ℕ) (s : List ℕ) (next : ℕ) (a : Action) → Inside n (action_way s next a)
unfolding action_way
action_inside n s next Pass = tt
action_inside n s next Next = tt
action_inside n s next Quit = tt
action_inside n s next GoBack = tt
action_inside n s next Retry = tt
action_inside n s next (Go start stop) = to_inside n start stop (target s (part s start stop))

exit_inside : (n : ℕ) (s : List ℕ) (unit tag start stop : ℕ) → Inside n (exit_way s unit tag start stop)
unfolding exit_way
exit_inside n s unit tag start stop =
    cond_inside n (eqb (attribute s tag start stop % 2) 1) (End true) (action_way s stop (handle s unit 0x10)) tt (action_inside n s stop (handle s unit 0x10))

unless_inside : (n : ℕ) (w : Complaint) (v : Way) → Inside n v → Inside n (unless_way w v)
unfolding unless_way
unless_inside n Nothing v i = i
unless_inside n Undefined v i = tt
unless_inside n Secured v i = tt
unless_inside n Misused v i = tt

length_inside : (c : Card) (number from to stop n : ℕ) → to ≤ n → Inside n (length_way c number from to stop)
unfolding length_way
length_inside c number from to stop n i =
    unless_inside n (worse (writing_in (service c.run.page) (area number)) (complaint c [] (named (part c.run.page from to)))) (Length number from to stop) i

list_inside : (c : Card) (number at stop : ℕ) → stop ≤ length c.run.page → (h : Option Tlv) → head_at c.run.page at stop ≡ h → Inside (length c.run.page) (list_way c number stop h)
unfolding list_way
list_inside c number at stop i (Some h) e =
    let k = tlv_in c.run.page at stop h.tag h.start h.stop e in
    length_inside c number h.start h.stop stop (length c.run.page) (omega arith)
list_inside c number at stop i None e = length_inside c number 0 0 stop (length c.run.page) (omega arith)

module _ (c : Card) (unit tag start stop : ℕ) (i : start ≤ stop) (j : stop ≤ length c.run.page) where
  send_inside : Inside (length c.run.page) (send_way c tag start stop)
  unfolding send_way
  send_inside =
      let x = execute_of c.run.page tag start stop in
      let n = length c.run.page in
      unless_inside n (execute_complaint c x) (cond (allowed c x) (send_tlv tag start stop) (Refuse Disallowed)) (cond_inside n (allowed c x) (send_tlv tag start stop) (Refuse Disallowed) (i, j) tt)

  by_inside : (k : ByteCode) → Inside (length c.run.page) (way_by c unit tag start stop k)
  unfolding way_by
  by_inside setting_variables = unless_inside (length c.run.page) (setting_complaint c [] (tlvs 1 c.run.page start stop)) (Store start stop) (i, j)
  by_inside going_back = tt
  by_inside branching = branch_inside (length c.run.page) c.run.page stop (branch_choice c start stop)
  by_inside exiting = exit_inside (length c.run.page) c.run.page unit tag start stop
  by_inside executing = send_inside
  by_inside getting_length = list_inside c (get_or c.run.page start 0) (start + 1) stop j (head_at c.run.page (start + 1) stop) refl
  by_inside unknown = tt

code_inside : (c : Card) (unit : ℕ) (h : Option Tlv) → ((v : Tlv) → h ≡ Some v → (v.start ≤ v.stop) × (v.stop ≤ length c.run.page)) → Inside (length c.run.page) (code_way c unit h)
unfolding code_way
code_inside c unit (Some h) f =
    let k = f h refl in
    by_inside c unit h.tag h.start h.stop k.0 k.1 (byte_code h.tag)
code_inside c unit None f = tt

pub way_inside : (page env temp perm : List ℕ) (unit place : ℕ) → Inside (length page) (way_at (view page env temp perm) unit place)
unfolding way_at view seen
way_inside page env temp perm unit place =
    code_inside (view page env temp perm) unit (code_at page unit place) (λ v x. let k = code_tlv page unit place x in (k.1, k.2))
