-- Branch On Variable Value of the rules is the answer of `branch_choice` taken on, for every card that shows what the lent parts show.
-- Assumes nothing.
use Prim.Native.Nat.{ℕ, ◌+◌}
use mathlib.Core.List.{List, []}
use mathlib.Core.Path.{◌≡◌, refl}
use lib.ListN.{get_or}
use Rattle.rules.specs.declared.Choice.{Choice}
use Rattle.rules.specs.declared.Choice.TheVariants.{Follow, Stay, Unknown}
use Rattle.rules.specs.declared.Complaint.{Complaint}
use Rattle.rules.specs.declared.Complaint.TheVariants.{Nothing, Undefined, Secured, Misused}
use Rattle.rules.specs.Tlv.{head_at}
use Rattle.rules.specs.Tlvs.{Tlvs, done, past, tlv, tlvs}
use Rattle.rules.specs.Page.{service}
use Rattle.rules.specs.Card.{Slot, free, held, Card}
use Rattle.rules.specs.Store.{area, unserved, read, worse}
use Rattle.rules.specs.Step.{Plan, unless, case_value, cases_complaint, case_choice, choose, chosen, branch_on_slot, branch_on_value}
use Rattle.variable.specs.View.{seen, bare}
use Rattle.variable.proofs.Bare.{bare_read}
use Rattle.value.proofs.Bare.{bare_complaint, bare_joined}
use Rattle.branching.specs.Branch.{refused_by, branch_for, branch_slot, branch_choice, taken_on}
use Rattle.std.specs.Prelude.{Option, Some, None, Result}
use Rattle.rules.specs.declared.Tlv.{Tlv}
use Rattle.rules.specs.declared.Span.{Span}
use Rattle.rules.specs.declared.Refusal.{Refusal}

bare_choice : (c : Card) (bytes : List ℕ) (stop : ℕ) (rest : Choice) (h : Option Tlv) → case_choice (bare c) bytes stop rest h ≡ case_choice c bytes stop rest h
unfolding case_choice bare seen
bare_choice c bytes stop rest (Some h) =
    rw (bare_complaint c [] (case_value c.run.page h.tag h.start h.stop), bare_joined c (case_value c.run.page h.tag h.start h.stop))
bare_choice c bytes stop rest None = refl

pub bare_choose : (c : Card) (bytes : List ℕ) (row : Tlvs) → choose (bare c) bytes row ≡ choose c bytes row
unfolding choose bare seen
bare_choose c bytes (done p) = refl
bare_choose c bytes (past p) = refl
bare_choose c bytes (tlv tag at start stop rest) = rw (bare_choose c bytes rest, bare_choice c bytes stop (choose c bytes rest) (head_at c.run.page start stop))

chosen_taken : (c : Card) (next : ℕ) (d : Choice) → chosen c next d ≡ taken_on c next (branch_for d)
unfolding chosen taken_on branch_for
chosen_taken c next (Follow start stop) = refl
chosen_taken c next Stay = refl
chosen_taken c next Unknown = refl

slot_taken : (c : Card) (next : ℕ) (row : Tlvs) (x : Slot) → branch_on_slot c next row x ≡ taken_on c next (branch_slot (bare c) row x)
unfolding branch_on_slot branch_slot taken_on
slot_taken c next row free = refl
slot_taken c next row (held type bytes) = rw (bare_choose c bytes row) (chosen_taken c next (choose c bytes row))

unless_taken : (c : Card) (next : ℕ) (w : Complaint) (p : Plan) (b : Result (Option Span) Refusal) → p ≡ taken_on c next b → unless w p ≡ taken_on c next (refused_by w b)
unfolding unless refused_by taken_on
unless_taken c next Nothing p b e = e
unless_taken c next Undefined p b e = refl
unless_taken c next Secured p b e = refl
unless_taken c next Misused p b e = refl

pub branch_taken : (c : Card) (start stop : ℕ) → branch_on_value c start stop ≡ taken_on c stop (branch_choice (bare c) start stop)
unfolding branch_on_value branch_choice bare seen
branch_taken c start stop =
    let row = tlvs 0 c.run.page (start + 1) stop in
    let n = get_or c.run.page start 0 in
    unless_taken c stop (worse (unserved (service c.run.page) (area n)) (cases_complaint c.run.page row)) (branch_on_slot c stop row (read c n)) (branch_slot (bare c) row (read (bare c) n))
    (rw (bare_read c n) (slot_taken c stop row (read c n)))
