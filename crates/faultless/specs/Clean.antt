-- Where no class finds a fault.
use Rattle.std.specs.Prelude.{ℕ, ◌+◌, ◌*◌, ◌≤◌, ◌<◌, ◌%◌, false, cond, List, [], ◌∷◌, ◌≡◌, eqb, Option, Some, None}
use Rattle.rules.specs.declared.Look.{Look}
use Rattle.rules.specs.Bytes.{part}
use Rattle.rules.specs.Tlv.{head_at}
use Rattle.rules.specs.Tlvs.{tlvs, plain, count}
use Rattle.rules.specs.Grammar.{page_kind}
use Rattle.rules.specs.Shape.{body_of}
use Rattle.rules.specs.Page.{content_at, page_row, anchor_in}
use Rattle.rules.specs.Forms.{taken_in, bad_anchor}
use Rattle.rules.specs.Loader.{shape_look, judged_look, goes, walk, class_fault}
use Rattle.forms.specs.Sound.{Seen}
use Rattle.rules.specs.declared.Tlv.{Tlv}
use Rattle.rules.specs.declared.Span.{Span}
use Rattle.rules.specs.Built.{some_tlv}

-- an anchor stands at its one place, and a unit and a modifier only where some are left
unfoldable pub Admitted : ℕ → ℕ → ℕ → ℕ → ℕ → ℕ → Type 0
Admitted anchor gap units modifiers at tag =
    (tag ≡ 0x0B → at ≡ anchor) × (tag % 128 ≡ 0x0A → (gap ≡ 0) × (0 < units)) × (tag % 128 ≡ 0x08 → (gap ≡ 0) × (0 < modifiers))

-- what class 3 sees in a TLV comes to the same as a look, with so many levels left below
abbrev pub Shaped : List ℕ → ℕ → ℕ → ℕ → ℕ → ℕ → ℕ → Look → Type 0
Shaped s within at tag start stop below l =
    (rest : Option ℕ)
    → goes (λ k o p e. walk below s 3 k o p e) at stop rest (shape_look (body_of s within tag start stop))
    ≡ goes (λ k o p e. walk below s 3 k o p e) at stop rest l

-- the look at what is judged, where that is so
unfoldable pub Settled : List ℕ → ℕ → ℕ → ℕ → ℕ → ℕ → ℕ → Look → Type 0
Settled s within at tag start stop below l = (l ≡ judged_look (body_of s within tag start stop)) × Shaped s within at tag start stop below l

-- an admitted TLV, in which each class sees the same
unfoldable pub Agreed : List ℕ → ℕ → ℕ → ℕ → ℕ → ℕ → ℕ → ℕ → ℕ → ℕ → ℕ → ℕ → ℕ → Look → Type 0
Agreed s within anchor gap units modifiers last cell at tag start stop below l =
    Admitted anchor gap units modifiers at tag × Seen s within last cell at tag start stop l × Shaped s within at tag start stop below l

-- the anchor at a place is not bad
abbrev pub FreshHead : List ℕ → ℕ → Option Tlv → Type 0
FreshHead s anchor (Some h) = h.tag ≡ 0x0B → bad_anchor s anchor h.tag h.start h.stop ≡ false
FreshHead s anchor None = Unit {0}

unfoldable pub Fresh : List ℕ → ℕ → ℕ → Type 0
Fresh s anchor end = FreshHead s anchor (head_at s anchor end)

-- what class 5 is to know of the anchor in a container, and class 6 of the modifiers that it has room for
unfoldable pub Known : List ℕ → ℕ → ℕ → ℕ → ℕ → Type 0
Known s class anchor room end = (class ≡ 5 → anchor < end → Fresh s anchor end) × (class ≡ 6 → room + count 0x08 (page_row s) ≤ 32)

unfoldable pub Clean : List ℕ → ℕ → ℕ → ℕ → ℕ → ℕ → ℕ → Type 0
Clean s within anchor room from end left = (class own : ℕ) → 3 ≤ class → Known s class anchor room end → walk left s class within own from end ≡ None

-- a name falls into one of 1024 slots by its bytes
unfoldable pub slot_in : ℕ → List ℕ → ℕ
slot_in slot [] = slot
slot_in slot (b ∷ bs) = slot_in ((slot * 31 + b) % 1024) bs

unfoldable pub slot_of : List ℕ → ℕ
slot_of name = slot_in 0 name

-- the slot of a unit's anchor, and the next one where there is none
unfoldable pub part_slot : List ℕ → Option Span → ℕ
part_slot s (Some p) = slot_of (part s p.from p.end)
part_slot s None = 1024

unfoldable pub anchor_slot : List ℕ → ℕ → ℕ → ℕ → ℕ
anchor_slot s tag start stop = cond (eqb (plain tag) 0x0A) (part_slot s (anchor_in s (some_tlv tag start stop))) 1024

-- no earlier anchor is equal to the one at a place
abbrev pub UntakenHead : List ℕ → ℕ → Option Tlv → Type 0
UntakenHead s place (Some h) = h.tag ≡ 0x0B → taken_in s (part s h.start h.stop) place (page_row s) ≡ false
UntakenHead s place None = Unit {0}

unfoldable pub Untaken : List ℕ → ℕ → ℕ → Type 0
Untaken s place end = UntakenHead s place (head_at s place end)

-- the anchor at a place is not bad, where its slot is seen or no earlier one is equal
unfoldable pub FreshIf : List ℕ → ℕ → ℕ → ℕ → Type 0
FreshIf s seen anchor end = (seen ≡ 0 → Untaken s anchor end) → Fresh s anchor end

-- a part of the page, with room for so many modifiers beside those of the page; its anchor's slot is seen already, or no earlier one is equal
unfoldable pub PartClean : List ℕ → ℕ → ℕ → ℕ → ℕ → ℕ → ℕ → ℕ → Type 0
PartClean s room seen tag start kind from stop =
    (class own : ℕ) → 3 ≤ class → room + count 0x08 (page_row s) ≤ 32 → (tag % 128 ≡ 0x0A → seen ≡ 0 → Untaken s (content_at s tag start stop) stop)
    → walk 6 s class kind own from stop ≡ None

-- the page's parts, where they stand from a place up to an end
unfoldable pub RowClean : List ℕ → ℕ → ℕ → Type 0
RowClean s from end = tlvs 0 s from end ≡ page_row s → (class own : ℕ) → 3 ≤ class → walk 7 s class page_kind own from end ≡ None

unfoldable pub PageClean : List ℕ → ℕ → Type 0
PageClean s stop = (class : ℕ) → 2 ≤ class → class_fault s class stop ≡ None
