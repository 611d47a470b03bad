-- The loader's answer to a page: classes 1 to 7, each over the whole page before the next, and of a class the lowest offset.
use Rattle.std.specs.Prelude.{ℕ, zero, suc, ◌+◌, ◌-◌, Bool, false, cond, List, [], ◌∷◌, length, ltb, eqb, Option, Some, None, Result, Ok}
use Rattle.rules.specs.Tlvs.{Tlvs, done, past, tlv, tlvs}
use Rattle.rules.specs.Grammar.{cell_of, gap_of, lacks, command_kind, whole_kind}
use Rattle.rules.specs.Shape.{body_of}
use Rattle.rules.specs.Page.{page_head}
use Rattle.rules.specs.Forms.{faulty, beyond_at}
use Rattle.rules.specs.declared.Body.{Body}
use Rattle.rules.specs.declared.Body.TheVariants.{Inner, Leaf, Short}
use Rattle.rules.specs.declared.Look.{Look}
use Rattle.rules.specs.declared.Look.TheVariants.{Fault, Over, Into}
use Rattle.rules.specs.declared.Tlv.{Tlv}
use Rattle.rules.specs.declared.Rejection.{Rejection}
use Rattle.rules.specs.Built.{reject}

-- classes 2 and 3 go into all that the tag says
unfoldable pub shape_look : Body → Look
shape_look Short = Fault
shape_look Leaf = Over
shape_look (Inner kind p) = Into kind p

-- the others into all that is judged, which the inside of '46' is not
unfoldable pub judged_look : Body → Look
judged_look Short = Over
judged_look Leaf = Over
judged_look (Inner kind p) = cond (eqb kind command_kind) Over (Into kind p)

-- classes 2 and 3 look at shapes; the others first at the TLV itself, and not into what is beyond the base
unfoldable pub look : List ℕ → ℕ → ℕ → ℕ → ℕ → ℕ → ℕ → ℕ → ℕ → ℕ → Look
look s class within last cell from at tag start stop =
    cond (ltb class 4) (shape_look (body_of s within tag start stop))
    (cond (faulty s class within last cell from at tag start stop) Fault
    (cond (beyond_at s within tag start stop) Over (judged_look (body_of s within tag start stop))))

unfoldable pub or_then : Option ℕ → Option ℕ → Option ℕ
or_then None b = b
or_then (Some p) b = Some p

-- below the eighth level: class 3 is at the first byte that would be a tag
unfoldable pub floor : ℕ → ℕ → ℕ → ℕ → Option ℕ
floor class within from end = cond (eqb class 3) (cond (ltb (gap_of within) (end - from)) (Some (from + gap_of within)) None) None

-- class 4: a part that must stand stands nowhere
unfoldable pub lacking : ℕ → ℕ → ℕ → Tlvs → Bool
lacking class within end row = cond (eqb class 4) (lacks within end row) false

-- the fault of one TLV: its own, one inside it, or one of what follows
unfoldable pub goes : (ℕ → ℕ → ℕ → ℕ → Option ℕ) → ℕ → ℕ → Option ℕ → Look → Option ℕ
goes below at stop rest Fault = Some at
goes below at stop rest Over = rest
goes below at stop rest (Into kind p) = or_then (below kind at p stop) rest

-- the first fault of a row in a container of some kind, after the part at the cell `last`
unfoldable pub row_fault : List ℕ → ℕ → (ℕ → ℕ → ℕ → ℕ → Option ℕ) → ℕ → ℕ → ℕ → Tlvs → Option ℕ
row_fault s class below within from last (done p) = None
row_fault s class below within from last (past p) = Some p
row_fault s class below within from last (tlv t at start stop rest) =
    goes below at stop (row_fault s class below within from (cell_of within t) rest) (look s class within last (cell_of within t) from at t start stop)

-- the first fault of a class in a container whose tag stands at `own`, with so many levels left
unfoldable pub walk : ℕ → List ℕ → ℕ → ℕ → ℕ → ℕ → ℕ → Option ℕ
walk zero s class within own from end = floor class within from end
walk (suc left) s class within own from end =
    cond (lacking class within end (tlvs (gap_of within) s from end)) (Some own)
    (row_fault s class (λ k o p e. walk left s class k o p e) within from 0 (tlvs (gap_of within) s from end))

-- bytes after the page are class 2's
unfoldable pub after : List ℕ → ℕ → ℕ → Option ℕ
after s class stop = cond (eqb class 2) (cond (ltb stop (length s)) (Some stop) None) None

-- the first fault of a class in a page whose TLV stops at `stop`: the Page TLV is level 1 of 8
unfoldable pub class_fault : List ℕ → ℕ → ℕ → Option ℕ
class_fault s class stop = or_then (walk 8 s class whole_kind 0 0 stop) (after s class stop)

unfoldable pub classes : List ℕ
classes = 2 ∷ 3 ∷ 4 ∷ 5 ∷ 6 ∷ 7 ∷ []

unfoldable pub or_rejected : ℕ → Result (Unit {0}) Rejection → Option ℕ → Result (Unit {0}) Rejection
or_rejected class rest None = rest
or_rejected class rest (Some p) = reject class p

unfoldable pub judge_by : List ℕ → List ℕ → ℕ → Result (Unit {0}) Rejection
judge_by s [] stop = Ok tt
judge_by s (c ∷ cs) stop = or_rejected c (judge_by s cs stop) (class_fault s c stop)

unfoldable pub judge_head : List ℕ → Option Tlv → Result (Unit {0}) Rejection
judge_head s None = reject 2 0
judge_head s (Some h) = judge_by s classes h.stop

-- document 01's table, numbers 1 to 7
unfoldable pub judge : List ℕ → Result (Unit {0}) Rejection
judge s = cond (eqb (length s) 0) (reject 1 0) (cond (ltb 4096 (length s)) (reject 1 0) (judge_head s (page_head s)))
