-- The reference by which a page that runs leads to another page has at most 65 bytes.
-- Assumes nothing.
use Prim.Native.Nat.{ℕ, ◌+◌, ◌≤◌, ◌%◌}
use mathlib.Core.Bool.{Bool, true, false, cond, false≢true}
use mathlib.Core.List.{List, []}
use mathlib.Core.Path.{◌≡◌, refl, sym, ap, ◌∙◌}
use lib.ListN.{length, get_or}
use lib.Dec.{eqb}
use borrow.Author.Tests.{eqb-true}
use Rattle.leaf.proofs.Cases.{both}
use Rattle.rules.specs.declared.Target.{Target}
use Rattle.rules.specs.declared.Target.TheVariants.{Unit as UnitAt, Lacking, Other}
use Rattle.rules.specs.declared.Action.{Action}
use Rattle.rules.specs.declared.Action.TheVariants.{Pass, Next, Quit, Back as GoBack, Retry, Go}
use Rattle.rules.specs.declared.Choice.{Choice}
use Rattle.rules.specs.declared.Choice.TheVariants.{Follow, Stay, Unknown}
use Rattle.rules.specs.declared.Complaint.{Complaint}
use Rattle.rules.specs.declared.Complaint.TheVariants.{Nothing, Undefined, Secured, Misused}
use Rattle.rules.specs.declared.Refusal.TheVariants.{Disallowed}
use Rattle.rules.specs.Bytes.{part}
use Rattle.rules.specs.Tlv.{head_at}
use Rattle.rules.specs.Tlvs.{Tlvs, tlvs, plain}
use Rattle.rules.specs.Pieces.{named}
use Rattle.rules.specs.Shape.{attribute}
use Rattle.rules.specs.Loader.{judge}
use Rattle.rules.specs.Page.{service, code_at}
use Rattle.rules.specs.Reference.{target}
use Rattle.rules.specs.Handler.{handle}
use Rattle.rules.specs.Card.{Slot, free, held, Card}
use Rattle.rules.specs.Store.{area, unserved, read, writing_in, worse}
use Rattle.rules.specs.Value.{complaint}
use Rattle.rules.specs.Command.{execute_of, execute_complaint, allowed}
use Rattle.rules.specs.Step.{choose, cases_complaint, setting_complaint, ByteCode, setting_variables, going_back, branching, exiting, executing, getting_length, unknown, byte_code}
use Rattle.rules.proofs.StaysCardHistory.{bounds}
use Rattle.rules.proofs.StaysCardReference.{GoRef, ChoiceRef, handle_ref, branch_ref}
use Rattle.rules.proofs.StaysCardPage.{page_fine}
use Rattle.rules.proofs.StaysCardStep.{Running}
use Rattle.variable.specs.View.{seen, bare}
use Rattle.branching.specs.Branch.{refused_by, branch_for, branch_slot, branch_choice}
use Rattle.branching.proofs.Taken.{bare_choose}
use Rattle.ways.specs.declared.Way.{Way}
use Rattle.ways.specs.declared.Way.TheVariants.{End, Refuse, Store, Length}
use Rattle.ways.specs.Way.{send_tlv, way_to, branch_way, action_way, exit_way, unless_way, length_way, list_way, send_way, way_by, code_way, way_at, Short}
use Rattle.std.specs.Prelude.{Option, Some, None, Result, Ok, Err}
use Rattle.rules.specs.declared.Tlv.{Tlv}
use Rattle.rules.specs.declared.Span.{Span}
use Rattle.rules.specs.declared.Refusal.{Refusal}

-- the reference that a branch follows
abbrev ShortBranch : List ℕ → Result (Option Span) Refusal → Type 0
ShortBranch s (Err r) = Unit {0}
ShortBranch s (Ok None) = Unit {0}
ShortBranch s (Ok (Some p)) = length (part s p.from p.end) ≤ 65

for_short : (s : List ℕ) (x : Choice) → ChoiceRef s x → ShortBranch s (branch_for x)
unfolding branch_for
for_short s (Follow a b) r = (bounds 2 65 (length (part s a b)) r).1
for_short s Stay r = tt
for_short s Unknown r = tt

slot_short : (c : Card) (row : Tlvs) → ((bytes : List ℕ) → ChoiceRef c.run.page (choose c bytes row)) → (x : Slot) → ShortBranch c.run.page (branch_slot (bare c) row x)
unfolding branch_slot
slot_short c row f free = tt
slot_short c row f (held type bytes) = for_short c.run.page (choose (bare c) bytes row) (rw (bare_choose c bytes row) (f bytes))

refused_short : (s : List ℕ) (w : Complaint) (b : Result (Option Span) Refusal) → ShortBranch s b → ShortBranch s (refused_by w b)
unfolding refused_by
refused_short s Nothing b h = h
refused_short s Undefined b h = tt
refused_short s Secured b h = tt
refused_short s Misused b h = tt

choice_short : (c : Card) (start stop : ℕ) → ((bytes : List ℕ) → ChoiceRef c.run.page (choose c bytes (tlvs 0 c.run.page (start + 1) stop))) → ShortBranch c.run.page (branch_choice (bare c) start stop)
unfolding branch_choice bare seen
choice_short c start stop f =
    refused_short c.run.page (worse (unserved (service c.run.page) (area (get_or c.run.page start 0))) (cases_complaint c.run.page (tlvs 0 c.run.page (start + 1) stop))) (branch_slot (bare c) (tlvs 0 c.run.page (start + 1) stop) (read (bare c) (get_or c.run.page start 0)))
    (slot_short c (tlvs 0 c.run.page (start + 1) stop) f (read (bare c) (get_or c.run.page start 0)))

to_short : (s : List ℕ) (start stop : ℕ) (t : Target) → length (part s start stop) ≤ 65 → Short s (way_to start stop t)
unfolding way_to
to_short s start stop (UnitAt k) h = tt
to_short s start stop Lacking h = tt
to_short s start stop Other h = h

branch_short : (s : List ℕ) (next : ℕ) (b : Result (Option Span) Refusal) → ShortBranch s b → Short s (branch_way s next b)
unfolding branch_way
branch_short s next (Err r) h = tt
branch_short s next (Ok None) h = tt
branch_short s next (Ok (Some p)) h = to_short s p.from p.end (target s (part s p.from p.end)) h

action_short : (s : List ℕ) (next : ℕ) (a : Action) → GoRef s a → Short s (action_way s next a)
unfolding action_way
action_short s next Pass h = tt
action_short s next Next h = tt
action_short s next Quit h = tt
action_short s next GoBack h = tt
action_short s next Retry h = tt
action_short s next (Go start stop) h = to_short s start stop (target s (part s start stop)) (bounds 2 65 (length (part s start stop)) h).1

cond_short : (s : List ℕ) (b : Bool) (v w : Way) → Short s v → Short s w → Short s (cond b v w)
cond_short s true v w x y = x
cond_short s false v w x y = y

exit_short : (s : List ℕ) (unit tag start stop : ℕ) → judge s ≡ Ok tt → Short s (exit_way s unit tag start stop)
unfolding exit_way
exit_short s unit tag start stop ok =
    cond_short s (eqb (attribute s tag start stop % 2) 1) (End true) (action_way s stop (handle s unit 0x10)) tt (action_short s stop (handle s unit 0x10) (handle_ref s ok unit 0x10))

unless_short : (s : List ℕ) (w : Complaint) (v : Way) → Short s v → Short s (unless_way w v)
unfolding unless_way
unless_short s Nothing v h = h
unless_short s Undefined v h = tt
unless_short s Secured v h = tt
unless_short s Misused v h = tt

list_short : (s : List ℕ) (c : Card) (n stop : ℕ) (h : Option Tlv) → Short s (list_way c n stop h)
unfolding list_way length_way
list_short s c n stop (Some h) = unless_short s (worse (writing_in (service c.run.page) (area n)) (complaint c [] (named (part c.run.page h.start h.stop)))) (Length n h.start h.stop stop) tt
list_short s c n stop None = unless_short s (worse (writing_in (service c.run.page) (area n)) (complaint c [] (named (part c.run.page 0 0)))) (Length n 0 0 stop) tt

send_short : (s : List ℕ) (c : Card) (tag start stop : ℕ) → Short s (send_way c tag start stop)
unfolding send_way
send_short s c tag start stop =
    let x = execute_of c.run.page tag start stop in
    unless_short s (execute_complaint c x) (cond (allowed c x) (send_tlv tag start stop) (Refuse Disallowed)) (cond_short s (allowed c x) (send_tlv tag start stop) (Refuse Disallowed) tt tt)

-- only '44' is a branch
is_branching : ByteCode → Bool
is_branching setting_variables = false
is_branching going_back = false
is_branching branching = true
is_branching exiting = false
is_branching executing = false
is_branching getting_length = false
is_branching unknown = false

no_branching : (b₁ b₂ b₃ b₄ b₅ : Bool) → is_branching (cond b₁ setting_variables (cond b₂ going_back (cond b₃ exiting (cond b₄ executing (cond b₅ getting_length unknown))))) ≡ false
unfolding is_branching
no_branching true b₂ b₃ b₄ b₅ = refl
no_branching false true b₃ b₄ b₅ = refl
no_branching false false true b₄ b₅ = refl
no_branching false false false true b₅ = refl
no_branching false false false false true = refl
no_branching false false false false false = refl

branching_44 : (tag : ℕ) → byte_code tag ≡ branching → tag ≡ 0x44
unfolding byte_code is_branching
branching_44 tag e =
    both (eqb tag 0x44) (λ t. eqb-true _ _ t)
    (λ f. let g : is_branching (cond (eqb tag 0x40) setting_variables (cond (eqb (plain tag) 0x43) going_back (cond (eqb (plain tag) 0x45) exiting (cond (eqb (plain tag) 0x46) executing (cond (eqb tag 0x48) getting_length unknown))))) ≡ true = ap is_branching (rw f at e) in
    absurd (false≢true (sym (no_branching (eqb tag 0x40) (eqb (plain tag) 0x43) (eqb (plain tag) 0x45) (eqb (plain tag) 0x46) (eqb tag 0x48)) ∙ g)))

module _ (c : Card) (r : Running c) (v : Tlv) (at : code_at c.run.page c.run.unit c.run.place ≡ Some v) where
  choices : v.tag ≡ 0x44 → ((bytes : List ℕ) → ChoiceRef c.run.page (choose c bytes (tlvs 0 c.run.page (v.start + 1) v.stop)))
  choices t bytes =
      let q = (page_fine c.run.page r.accepted).code c.run.unit c.run.place 0x44 v.start v.stop r.place (rw t at at) in
      branch_ref c bytes q.0 q.1 c.run.place v.start v.stop q.3 q.2

  code_short : (k : ByteCode) → byte_code v.tag ≡ k → Short c.run.page (way_by (bare c) c.run.unit v.tag v.start v.stop k)
  unfolding way_by bare seen
  code_short setting_variables e = unless_short c.run.page (setting_complaint (bare c) [] (tlvs 1 c.run.page v.start v.stop)) (Store v.start v.stop) tt
  code_short going_back e = tt
  code_short branching e = branch_short c.run.page v.stop (branch_choice (bare c) v.start v.stop) (choice_short c v.start v.stop (choices (branching_44 v.tag e)))
  code_short exiting e = exit_short c.run.page c.run.unit v.tag v.start v.stop r.accepted
  code_short executing e = send_short c.run.page (bare c) v.tag v.start v.stop
  code_short getting_length e = list_short c.run.page (bare c) (get_or c.run.page v.start 0) v.stop (head_at c.run.page (v.start + 1) v.stop)
  code_short unknown e = tt

head_short : (c : Card) → Running c → (h : Option Tlv) → code_at c.run.page c.run.unit c.run.place ≡ h → Short c.run.page (code_way (bare c) c.run.unit h)
unfolding code_way
head_short c r (Some h) e = code_short c r h e (byte_code h.tag) refl
head_short c r None e = tt

pub way_short : (c : Card) → Running c → Short c.run.page (way_at (bare c) c.run.unit c.run.place)
unfolding way_at bare seen
way_short c r = head_short c r (code_at c.run.page c.run.unit c.run.place) refl
