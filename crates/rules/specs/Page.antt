-- An accepted page, read: its parts (clause 7.1) and its units (clause 7.2). Every definition is total on any bytes.
use Rattle.std.specs.Prelude.{ℕ, ◌+◌, ◌-◌, ◌/◌, ◌%◌, Bool, true, false, cond, List, [], length, ltb, eqb, Option, Some, None}
use Rattle.rules.specs.Bytes.{same, part}
use Rattle.rules.specs.Tlv.{head_at}
use Rattle.rules.specs.Tlvs.{Tlvs, done, past, tlv, tlvs, plain, count}
use Rattle.rules.specs.Pieces.{Pieces, full, cut, text, variable, pieces}
use Rattle.rules.specs.Shape.{attribute, attributes_end}
use Rattle.rules.specs.declared.Tlv.{Tlv}
use Rattle.rules.specs.declared.Span.{Span}
use Rattle.rules.specs.Built.{some_tlv, some_span}

-- the place after the attributes of a value
unfoldable pub spot_or : ℕ → Option ℕ → ℕ
spot_or stop (Some p) = p
spot_or stop None = stop

unfoldable pub content_at : List ℕ → ℕ → ℕ → ℕ → ℕ
content_at s tag start stop = spot_or stop (attributes_end s tag start stop)

-- the TLVs in a TLV that has attributes and no fixed bytes: the page, a unit
unfoldable pub row_of : List ℕ → Option Tlv → Tlvs
row_of s (Some h) = tlvs 0 s (content_at s h.tag h.start h.stop) h.stop
row_of s None = done 0

unfoldable pub attribute_of : List ℕ → Option Tlv → ℕ
attribute_of s (Some h) = attribute s h.tag h.start h.stop
attribute_of s None = 0

unfoldable pub page_head : List ℕ → Option Tlv
page_head s = head_at s 0 (length s)

unfoldable pub page_row : List ℕ → Tlvs
page_row s = row_of s (page_head s)

-- the first TLV of a row with a tag
unfoldable pub part_in : ℕ → Tlvs → Option Span
part_in t (done p) = None
part_in t (past p) = None
part_in t (tlv tag at start stop rest) = cond (eqb tag t) (some_span start stop) (part_in t rest)

unfoldable pub page_part : List ℕ → ℕ → Option Span
page_part s t = part_in t (page_row s)

unfoldable pub is_held : Option Span → Bool
is_held (Some p) = true
is_held None = false

unfoldable pub bytes_of : List ℕ → Option Span → List ℕ
bytes_of s (Some p) = part s p.from p.end
bytes_of s None = []

-- 6.2: value types 5 to 7 are not assigned and count as unknown
unfoldable pub type_of : ℕ → ℕ
type_of x = cond (ltb x 5) x 0

-- 7.1.1: bit 1 of the page's attributes is KeepAll, bits 2 to 4 are the page's value type
unfoldable pub keeps_all : List ℕ → Bool
keeps_all s = eqb (attribute_of s (page_head s) % 2) 1

unfoldable pub page_type : List ℕ → ℕ
page_type s = type_of (attribute_of s (page_head s) / 2 % 8)

-- 7.1.2
unfoldable pub identification : List ℕ → List ℕ
identification s = bytes_of s (page_part s 0x02)

-- 7.1.3: the first byte of a Page Unlock is ignored
unfoldable pub after_one : Option Span → Option Span
after_one (Some p) = some_span (p.from + 1) p.end
after_one None = None

unfoldable pub unlock : List ℕ → Option Span
unlock s = after_one (page_part s 0x03)

-- 7.1.4, 7.1.5, 7.1.6: no Service ID reads as an empty one, which no page can carry
unfoldable pub password : List ℕ → Option Span
password s = page_part s 0x04

unfoldable pub keep_list : List ℕ → Option Span
keep_list s = page_part s 0x05

unfoldable pub service : List ℕ → List ℕ
service s = bytes_of s (page_part s 0x06)

-- 7.1.7, 6.1.4: the elements of the string pool, the first being number 0
unfoldable pub pool_in : List ℕ → Option Span → Pieces
pool_in s (Some p) = pieces false s p.from p.end
pool_in s None = full

unfoldable pub pool : List ℕ → Pieces
pool s = pool_in s (page_part s 0x07)

unfoldable pub element_in : ℕ → Pieces → Option Span
element_in n full = None
element_in n cut = None
element_in n (text from to rest) = cond (eqb n 0) (some_span from to) (element_in (n - 1) rest)
element_in n (variable k rest) = element_in n rest

unfoldable pub element : List ℕ → ℕ → Option Span
element s n = element_in n (pool s)

-- 7.2: the k-th unit, from 0
unfoldable pub unit_in : ℕ → Tlvs → Option Tlv
unit_in k (done p) = None
unit_in k (past p) = None
unit_in k (tlv tag at start stop rest) = cond (eqb (plain tag) 0x0A) (cond (eqb k 0) (some_tlv tag start stop) (unit_in (k - 1) rest)) (unit_in k rest)

unfoldable pub unit_at : List ℕ → ℕ → Option Tlv
unit_at s k = unit_in k (page_row s)

unfoldable pub unit_count : List ℕ → ℕ
unit_count s = count 0x0A (page_row s)

unfoldable pub unit_row : List ℕ → ℕ → Tlvs
unit_row s k = row_of s (unit_at s k)

-- 7.2.2: the name of a unit
unfoldable pub anchor_in : List ℕ → Option Tlv → Option Span
anchor_in s h = part_in 0x0B (row_of s h)

unfoldable pub anchor : List ℕ → ℕ → Option Span
anchor s k = anchor_in s (unit_at s k)

-- a part holds just these bytes
unfoldable pub holds : List ℕ → List ℕ → Option Span → Bool
holds s name (Some p) = same (part s p.from p.end) name
holds s name None = false

-- 7.2.1: bit 1 of a unit's attributes keeps it out of the history
unfoldable pub unrecorded : List ℕ → ℕ → Bool
unrecorded s k = eqb (attribute_of s (unit_at s k) % 2) 1

-- a TLV of a unit is a byte code where it is neither its anchor nor a modifier
unfoldable pub is_code : ℕ → Bool
is_code tag = cond (eqb tag 0x0B) false (cond (eqb (plain tag) 0x08) false true)

-- the place of the first byte code of a unit, or the unit's end
unfoldable pub entry_in : Tlvs → ℕ
entry_in (done p) = p
entry_in (past p) = p
entry_in (tlv tag at start stop rest) = cond (is_code tag) at (entry_in rest)

unfoldable pub entry_of : List ℕ → ℕ → ℕ
entry_of s k = entry_in (unit_row s k)

-- a place is that of a byte code of the unit, or the unit's end
unfoldable pub is_place_in : ℕ → Tlvs → Bool
is_place_in place (done p) = eqb place p
is_place_in place (past p) = false
is_place_in place (tlv tag at start stop rest) = cond (is_code tag) (cond (eqb place at) true (is_place_in place rest)) (is_place_in place rest)

unfoldable pub is_place : List ℕ → ℕ → ℕ → Bool
is_place s k place = is_place_in place (unit_row s k)

-- the byte code at a place of a unit; Past at the unit's end
unfoldable pub code_in : List ℕ → ℕ → Option Tlv → Option Tlv
code_in s place (Some h) = head_at s place h.stop
code_in s place None = None

unfoldable pub code_at : List ℕ → ℕ → ℕ → Option Tlv
code_at s k place = code_in s place (unit_at s k)
