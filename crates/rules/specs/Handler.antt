-- The terminal response handler (clauses 4.3 and 7.1.8): modifiers in force, their search, and the default configuration.
use Rattle.std.specs.Prelude.{ℕ, ◌+◌, Bool, false, cond, List, get_or, ltb, leb, eqb, Option, Some, None}
use Rattle.rules.specs.Tlv.{head_at}
use Rattle.rules.specs.Tlvs.{Tlvs, done, past, tlv, tlvs, plain}
use Rattle.rules.specs.Page.{content_at, page_row, unit_row}
use Rattle.rules.specs.declared.Action.{Action}
use Rattle.rules.specs.declared.Action.TheVariants.{Pass, Next, Quit, Back, Retry, Go}
use Rattle.rules.specs.declared.Tlv.{Tlv}
use Rattle.rules.specs.Built.{some_tlv}

-- 7.9: the anchor reference that a TLV is or, as a page reference, holds; a TLV that is neither leads nowhere
unfoldable pub go_to : Option Tlv → Action
go_to (Some h) = cond (eqb h.tag 0x0C) (Go h.start h.stop) Pass
go_to None = Pass

unfoldable pub branch_by : List ℕ → Option Tlv → Action
branch_by s (Some h) = cond (eqb h.tag 0x12) (go_to (head_at s h.start h.stop)) (go_to (some_tlv h.tag h.start h.stop))
branch_by s None = Pass

-- 7.1.8.4.2: the action of an ID. '04' to '1F' are reserved: such a modifier changes nothing (7.1.8).
unfoldable pub action_by : List ℕ → ℕ → ℕ → ℕ → Action
action_by s id at stop =
    cond (eqb id 0) Next
    (cond (eqb id 1) Quit
    (cond (eqb id 2) Back
    (cond (eqb id 3) Retry
    (cond (ltb id 0x20) Pass (branch_by s (head_at s at stop))))))

unfoldable pub action_at : List ℕ → ℕ → ℕ → Action
action_at s at stop = cond (ltb at stop) (action_by s (get_or s at 0) (at + 1) stop) Pass

-- the first action of a row
unfoldable pub action_in : List ℕ → Tlvs → Action
action_in s (done p) = Pass
action_in s (past p) = Pass
action_in s (tlv tag at start stop rest) =
    cond (eqb (plain tag) 0x09) (action_at s (content_at s tag start stop) stop) (action_in s rest)

-- 7.1.8.2: a range matches g when low <= g <= high; 'FF FF' is a plain interval (House)
unfoldable pub in_range : ℕ → ℕ → ℕ → Bool
in_range low high g = cond (leb low g) (leb g high) false

-- what the modifier whose range stands at a place does for a general result
unfoldable pub modifier_at : List ℕ → ℕ → ℕ → ℕ → Action
modifier_at s g at stop = cond (in_range (get_or s at 0) (get_or s (at + 1) 0) g) (action_in s (tlvs 0 s (at + 2) stop)) Pass

unfoldable pub or_else : Action → Action → Action
or_else Pass b = b
or_else Next b = Next
or_else Quit b = Quit
or_else Back b = Back
or_else Retry b = Retry
or_else (Go start stop) b = Go start stop

-- the modifiers of a row, from the last to the first
unfoldable pub last_in : List ℕ → ℕ → Tlvs → Action
last_in s g (done p) = Pass
last_in s g (past p) = Pass
last_in s g (tlv tag at start stop rest) =
    or_else (last_in s g rest) (cond (eqb (plain tag) 0x08) (modifier_at s g (content_at s tag start stop) stop) Pass)

-- 4.3.2, table 4.1; where it lists several actions, the first (House)
unfoldable pub default : ℕ → Action
default g = cond (ltb g 0x10) Next (cond (eqb g 0x11) Back (cond (eqb g 0x13) Retry Quit))

-- The unit's modifiers stand after the page's, so they are tried first.
unfoldable pub handle : List ℕ → ℕ → ℕ → Action
handle s k g = or_else (last_in s g (unit_row s k)) (or_else (last_in s g (page_row s)) (default g))
