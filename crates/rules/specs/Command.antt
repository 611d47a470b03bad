-- Execute USAT Command (clause 8.7): the outgoing command, byte for byte, and what its response brings (8.7.5).
use Rattle.std.specs.Prelude.{ℕ, ◌+◌, ◌/◌, ◌%◌, Bool, true, false, cond, List, [], ◌∷◌, ◌++◌, length, get_or, ltb, eqb, Option, Some, None}
use Rattle.rules.specs.Bytes.{part, among}
use Rattle.rules.specs.Tlvs.{Tlvs, done, past, tlv, tlvs, plain}
use Rattle.rules.specs.Pieces.{pieces}
use Rattle.rules.specs.Shape.{attribute}
use Rattle.rules.specs.Page.{content_at}
use Rattle.rules.specs.Card.{Slot, free, held, Card}
use Rattle.rules.specs.Store.{writing, worse, Written, wrote, no_room, write}
use Rattle.rules.specs.Value.{complaint, joined, shortest}
use Rattle.rules.specs.declared.Complaint.{Complaint}
use Rattle.rules.specs.declared.Complaint.TheVariants.{Nothing}
use Rattle.rules.specs.declared.Tlv.{Tlv}
use Rattle.rules.specs.Built.{some_tlv, some_reply}
use Rattle.rules.specs.declared.Reply.{Reply}

-- An Execute USAT Command: its attributes and the place after them. The numbers of the result variables come first, then type, qualifier, destination.
pub record Execute : Type 0 where
  pub attributes : ℕ
  pub at : ℕ
  pub stop : ℕ

unfoldable pub execute_of : List ℕ → ℕ → ℕ → ℕ → Execute
execute_of s tag start stop = record { attributes = attribute s tag start stop; at = content_at s tag start stop; stop = stop }

-- bit 1: the general result's number is present; bit 2: optimisation is required; bit 3: the output's number is present
unfoldable pub has_general : Execute → Bool
has_general x = eqb (x.attributes % 2) 1

unfoldable pub optimises : Execute → Bool
optimises x = eqb (x.attributes / 2 % 2) 1

unfoldable pub has_output : Execute → Bool
has_output x = eqb (x.attributes / 4 % 2) 1

unfoldable pub general_number : List ℕ → Execute → ℕ
general_number s x = get_or s x.at 0

unfoldable pub output_number : List ℕ → Execute → ℕ
output_number s x = get_or s (x.at + x.attributes % 2) 0

-- the place of the command's type
unfoldable pub type_at : Execute → ℕ
type_at x = x.at + (x.attributes % 2 + x.attributes / 4 % 2)

unfoldable pub simple_tlvs : List ℕ → Execute → Tlvs
simple_tlvs s x = tlvs 0 s (type_at x + 3) x.stop

-- 16 and 19 for the result variables
unfoldable pub result_complaint : Card → Execute → Complaint
result_complaint c x =
    worse (cond (has_general x) (writing c (general_number c.run.page x)) Nothing)
    (cond (has_output x) (writing c (output_number c.run.page x)) Nothing)

-- 19 and 17 for the variables of the Simple TLV Indicators
unfoldable pub indicator_complaint : Card → Tlvs → Complaint
indicator_complaint c (done p) = Nothing
indicator_complaint c (past p) = Nothing
indicator_complaint c (tlv tag at start stop rest) =
    worse (cond (eqb tag 0) (complaint c [] (pieces true c.run.page (start + 1) stop)) Nothing) (indicator_complaint c rest)

unfoldable pub execute_complaint : Card → Execute → Complaint
execute_complaint c x = worse (result_complaint c x) (indicator_complaint c (simple_tlvs c.run.page x))

-- variable '02' lists the allowed types; undefined it allows all (House)
unfoldable pub allowed_by : ℕ → Slot → Bool
allowed_by type free = true
allowed_by type (held t bytes) = among bytes type

unfoldable pub allowed : Card → Execute → Bool
allowed c x = allowed_by (get_or c.run.page (type_at x) 0) (get_or c.environment 2 free)

-- 8.7.3: an indicator becomes a Simple TLV with the result tag and a length in the shortest form
unfoldable pub indicated : ℕ → List ℕ → List ℕ
indicated tag bytes = tag ∷ (shortest (length bytes) ++ bytes)

-- 8.7.4: Simple TLVs stand as they are, indicators are expanded
unfoldable pub expanded : Card → Tlvs → List ℕ
expanded c (done p) = []
expanded c (past p) = []
expanded c (tlv tag at start stop rest) =
    cond (eqb tag 0) (indicated (get_or c.run.page start 0) (joined c (pieces true c.run.page (start + 1) stop))) (part c.run.page at stop)
    ++ expanded c rest

-- TS 31.111: command details with number 1 (House), device identities from the UICC ('81'), the Simple TLVs
unfoldable pub command_body : Card → Execute → List ℕ
command_body c x =
    let s = c.run.page in
    0x81 ∷ 0x03 ∷ 0x01 ∷ get_or s (type_at x) 0 ∷ get_or s (type_at x + 1) 0 ∷ 0x82 ∷ 0x02 ∷ 0x81 ∷ get_or s (type_at x + 2) 0 ∷ expanded c (simple_tlvs s x)

unfoldable pub enveloped : List ℕ → List ℕ
enveloped body = 0xD0 ∷ (shortest (length body) ++ body)

unfoldable pub command : Card → Execute → List ℕ
command c x = enveloped (command_body c x)

-- A response is Simple TLVs that fill its 1 to 255 bytes exactly.
unfoldable pub fills : Tlvs → Bool
fills (done p) = true
fills (past p) = false
fills (tlv tag at start stop rest) = fills rest

unfoldable pub first_of : Tlvs → Option Tlv
first_of (done p) = None
first_of (past p) = None
first_of (tlv tag at start stop rest) = some_tlv tag start stop

-- the first Result TLV ('03' or '83') that is not empty, and the TLV after it
unfoldable pub result_in : List ℕ → Tlvs → Option Reply
result_in r (done p) = None
result_in r (past p) = None
result_in r (tlv tag at start stop rest) =
    cond (eqb (plain tag) 0x03) (cond (ltb start stop) (some_reply (get_or r start 0) (first_of rest)) (result_in r rest)) (result_in r rest)

unfoldable pub reply : List ℕ → Option Reply
reply r =
    cond (eqb (length r) 0) None
    (cond (ltb 255 (length r)) None
    (cond (fills (tlvs 0 r 0 (length r))) (result_in r (tlvs 0 r 0 (length r))) None))

-- the type that a Text String's DCS gives: packed, unpacked, UCS2, or unknown
unfoldable pub text_type : ℕ → ℕ
text_type dcs = cond (eqb dcs 0x00) 2 (cond (eqb dcs 0x04) 1 (cond (eqb dcs 0x08) 4 0))

-- 8.7.5.2: the TLV after the result; of a Text String ('0D' or '8D') the DCS goes and gives the type
unfoldable pub optimised : List ℕ → Option Tlv → Slot
optimised r (Some h) =
    cond (eqb (plain h.tag) 0x0D)
    (cond (ltb h.start h.stop) (held (text_type (get_or r h.start 0)) (part r (h.start + 1) h.stop)) (held 0 []))
    (held 0 (part r h.start h.stop))
optimised r None = held 0 []

-- 8.7.5.1, 8.7.5.2
unfoldable pub output : List ℕ → Execute → Option Tlv → Slot
output r x after = cond (optimises x) (optimised r after) (held 0 r)

unfoldable pub write_slot : Card → ℕ → Slot → Written
write_slot c n free = wrote c
write_slot c n (held type bytes) = write c n type bytes

unfoldable pub then_output : List ℕ → Execute → Option Tlv → Written → Written
then_output r x after (wrote c) = cond (has_output x) (write_slot c (output_number c.run.page x) (output r x after)) (wrote c)
then_output r x after no_room = no_room

-- the general result, then the output: both are written or neither (House)
unfoldable pub results : Card → Execute → ℕ → List ℕ → Option Tlv → Written
results c x g r after =
    then_output r x after (cond (has_general x) (write c (general_number c.run.page x) 0 (g ∷ [])) (wrote c))
