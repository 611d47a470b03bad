-- What Branch On Variable Value (8.5) comes to before its reference is resolved, and how the answer is taken on.
use Rattle.std.specs.Prelude.{ℕ, ◌+◌, cond, List, [], get_or, Option, Some, None, Result, Ok, Err}
use Rattle.rules.specs.Bytes.{same, part}
use Rattle.rules.specs.Tlv.{head_at}
use Rattle.rules.specs.Tlvs.{Tlvs, tlvs}
use Rattle.rules.specs.Page.{service}
use Rattle.rules.specs.Card.{Slot, free, held, Card}
use Rattle.rules.specs.Store.{area, unserved, read, worse}
use Rattle.rules.specs.Value.{complaint, joined}
use Rattle.rules.specs.Step.{Plan, refuses, does, onwards, branch, case_value, cases_complaint, follow_in, is_undefined, choose}
use Rattle.rules.specs.declared.Choice.{Choice}
use Rattle.rules.specs.declared.Choice.TheVariants.{Follow, Stay, Unknown}
use Rattle.rules.specs.declared.Complaint.{Complaint}
use Rattle.rules.specs.declared.Complaint.TheVariants.{Nothing, Undefined, Secured, Misused}
use Rattle.rules.specs.declared.Refusal.TheVariants.{Syntax, Variable, Security}
use Rattle.rules.specs.declared.Tlv.{Tlv}
use Rattle.rules.specs.declared.Span.{Span}
use Rattle.rules.specs.declared.Refusal.{Refusal}

-- a branch to the reference that stands from a place up to an end
abbrev pub towards : ℕ → ℕ → Result (Option Span) Refusal
towards from end = Ok (Some (record { from = from; end = end }))

-- one case; `stop` is its end
unfoldable pub tried : Card → List ℕ → ℕ → Option Tlv → Option Choice
tried c bytes stop (Some h) =
    cond (is_undefined (complaint c [] (case_value c.run.page h.tag h.start h.stop))) (Some Unknown)
    (cond (same (joined c (case_value c.run.page h.tag h.start h.stop)) bytes) (Some (follow_in c.run.page (head_at c.run.page h.stop stop))) None)
tried c bytes stop None = None

-- 16, 19, 17 go before what else may be refused
unfoldable pub refused_by : Complaint → Result (Option Span) Refusal → Result (Option Span) Refusal
refused_by Nothing b = b
refused_by Undefined b = Err Variable
refused_by Secured b = Err Security
refused_by Misused b = Err Syntax

unfoldable pub branch_for : Choice → Result (Option Span) Refusal
branch_for (Follow start stop) = towards start stop
branch_for Stay = Ok None
branch_for Unknown = Err Variable

unfoldable pub branch_slot : Card → Tlvs → Slot → Result (Option Span) Refusal
branch_slot c row free = Err Variable
branch_slot c row (held type bytes) = branch_for (choose c bytes row)

unfoldable pub branch_choice : Card → ℕ → ℕ → Result (Option Span) Refusal
branch_choice c start stop =
    let s = c.run.page in
    let n = get_or s start 0 in
    let row = tlvs 0 s (start + 1) stop in
    refused_by (worse (unserved (service s) (area n)) (cases_complaint s row)) (branch_slot c row (read c n))

-- the answer taken on: a refusal, the byte code behind `next`, or a branch by the reference
unfoldable pub taken_on : Card → ℕ → Result (Option Span) Refusal → Plan
taken_on c next (Err r) = refuses r
taken_on c next (Ok None) = does c (onwards next)
taken_on c next (Ok (Some p)) = branch c (part c.run.page p.from p.end)
