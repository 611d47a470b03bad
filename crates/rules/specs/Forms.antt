-- What each of the classes 4 to 7 asks of one TLV.
use Rattle.std.specs.Prelude.{ℕ, ◌+◌, ◌-◌, ◌*◌, ◌/◌, ◌%◌, Bool, true, false, cond, List, [], ◌∷◌, ltb, leb, eqb, Option, Some, None}
use Rattle.rules.specs.Bytes.{part, among}
use Rattle.rules.specs.Tlv.{head_at}
use Rattle.rules.specs.Tlvs.{Tlvs, done, past, tlv, tlvs, plain, count}
use Rattle.rules.specs.Pieces.{Pieces, full, cut, text, variable, pieces}
use Rattle.rules.specs.Grammar.{Entry, entry, misplaced, beyond, unit_kind}
use Rattle.rules.specs.Shape.{attribute, number_in, body_of}
use Rattle.rules.specs.Page.{page_row, anchor_in, holds}
use Rattle.rules.specs.Reference.{mark}
use Rattle.rules.specs.declared.Body.{Body}
use Rattle.rules.specs.declared.Body.TheVariants.{Inner, Leaf, Short}
use Rattle.rules.specs.declared.Tlv.{Tlv}
use Rattle.rules.specs.Built.{some_tlv}

-- Class 4: an anchor reference with no '23', or that is '23' alone.
unfoldable pub bad_reference : ℕ → Option ℕ → Bool
bad_reference size (Some n) = eqb size 1
bad_reference size None = true

-- Class 4: a TLV out of its place, or a bad anchor reference.
unfoldable pub out_of_place : List ℕ → ℕ → ℕ → ℕ → ℕ → ℕ → Bool
out_of_place s last cell tag start stop =
    cond (misplaced last cell) true (cond (eqb tag 0x0C) (bad_reference (stop - start) (mark (part s start stop))) false)

-- Class 5: one of the units that end by a place has the name.
unfoldable pub taken_in : List ℕ → List ℕ → ℕ → Tlvs → Bool
taken_in s name place (done p) = false
taken_in s name place (past p) = false
taken_in s name place (tlv tag at start stop rest) =
    cond (ltb place stop) false
    (cond (eqb (plain tag) 0x0A) (cond (holds s name (anchor_in s (some_tlv tag start stop))) true (taken_in s name place rest)) (taken_in s name place rest))

unfoldable pub is_marked : Option ℕ → Bool
is_marked (Some n) = true
is_marked None = false

-- Class 5: an anchor with '23', or equal to an earlier one.
unfoldable pub bad_anchor : List ℕ → ℕ → ℕ → ℕ → ℕ → Bool
bad_anchor s at tag start stop =
    cond (eqb tag 0x0B) (cond (is_marked (mark (part s start stop))) true (taken_in s (part s start stop) at (page_row s))) false

-- Class 6: the sizes of names by their tags, sixty-four times the least and the most. The ignored byte of '03' is counted here.
unfoldable pub sizes : List Entry
sizes =
    entry (1 * 64 + 32) (0x02 ∷ 0x0B ∷ []) ∷
    entry (1 * 64 + 17) (0x03 ∷ []) ∷
    entry (0 * 64 + 16) (0x04 ∷ []) ∷
    entry (1 * 64 + 16) (0x06 ∷ []) ∷
    []

unfoldable pub size_of : ℕ → ℕ
size_of t = number_in sizes t

unfoldable pub out_of_size : ℕ → ℕ → Bool
out_of_size limit size = cond (eqb limit 0) false (cond (ltb size (limit / 64)) true (ltb (limit % 64) size))

-- Class 6: the page part or the anchor part of a reference is over 32 bytes.
unfoldable pub long_reference : ℕ → Option ℕ → Bool
long_reference size (Some n) = cond (ltb 32 n) true (ltb 32 (size - (n + 1)))
long_reference size None = false

-- Class 6: more than 64 elements in the pool, or one over 255 bytes; n are passed already.
unfoldable pub big_pool : ℕ → Pieces → Bool
big_pool n full = false
big_pool n cut = false
big_pool n (text from to rest) = cond (leb 64 n) true (cond (ltb 255 (to - from)) true (big_pool (n + 1) rest))
big_pool n (variable k rest) = big_pool n rest

-- Class 6: the 65th unit, or the modifier that makes more than 32 in force: the page's, and the page's and one unit's together.
-- `from` is where the TLVs of the container begin.
unfoldable pub crowded : List ℕ → ℕ → ℕ → ℕ → ℕ → Bool
crowded s within from at tag =
    cond (eqb (plain tag) 0x0A) (leb 64 (count 0x0A (tlvs 0 s from at)))
    (cond (eqb (plain tag) 0x08)
    (cond (eqb within unit_kind) (leb 32 (count 0x08 (page_row s) + count 0x08 (tlvs 0 s from at))) (leb 32 (count 0x08 (tlvs 0 s from at))))
    false)

unfoldable pub too_big : List ℕ → ℕ → ℕ → ℕ → ℕ → ℕ → ℕ → Bool
too_big s within from at tag start stop =
    cond (out_of_size (size_of tag) (stop - start)) true
    (cond (eqb tag 0x0C) (long_reference (stop - start) (mark (part s start stop)))
    (cond (eqb tag 0x07) (big_pool 0 (pieces false s start stop))
    (crowded s within from at tag)))

-- Class 7: a page reference that begins as one does, and does not hold just one anchor reference.
unfoldable pub odd_head : ℕ → Option Tlv → Bool
odd_head stop (Some h) = cond (eqb h.tag 0x0C) (ltb h.stop stop) (among (0x0D ∷ 0x13 ∷ 0x93 ∷ []) h.tag)
odd_head stop None = false

-- Class 7: a modifier of another type than Replace (7.1.8.1), or with several actions.
unfoldable pub several : List ℕ → ℕ → Body → Bool
several s stop (Inner kind p) = ltb 1 (count 0x09 (tlvs 0 s p stop))
several s stop Leaf = false
several s stop Short = false

unfoldable pub odd_modifier : List ℕ → ℕ → ℕ → ℕ → ℕ → Bool
odd_modifier s within tag start stop = cond (ltb 0 (attribute s tag start stop % 4)) true (several s stop (body_of s within tag start stop))

-- Class 7: a tag that is beyond the base where it stands, or one of these forms.
unfoldable pub beyond_at : List ℕ → ℕ → ℕ → ℕ → ℕ → Bool
beyond_at s within tag start stop =
    cond (beyond within tag) true
    (cond (eqb tag 0x12) (odd_head stop (head_at s start stop))
    (cond (eqb (plain tag) 0x08) (odd_modifier s within tag start stop) false))

-- what a class finds at fault
unfoldable pub faulty : List ℕ → ℕ → ℕ → ℕ → ℕ → ℕ → ℕ → ℕ → ℕ → ℕ → Bool
faulty s class within last cell from at tag start stop =
    cond (eqb class 4) (out_of_place s last cell tag start stop)
    (cond (eqb class 5) (bad_anchor s at tag start stop)
    (cond (eqb class 6) (too_big s within from at tag start stop)
    (cond (eqb class 7) (beyond_at s within tag start stop) false)))
