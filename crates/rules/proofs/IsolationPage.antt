-- A page that carries no hidden ID has another service or none, and one that does not present a password does not unlock by it.
-- Assumes nothing.
use mathlib.Core.Path.{◌≡◌, refl, sym, ap, ◌∙◌}
use mathlib.Core.Bool.{Bool, false, cond, ◌&&◌, false≢true}
use mathlib.Core.List.{List, [], ◌∷◌}
use Prim.Native.Nat.{ℕ, zero, suc, ◌+◌, ◌-◌, ◌*◌, ◌≤◌, ◌<◌}
use native.Mathlib.Omega.{arith}
use lib.ListN.{length, get_or, drop}
use lib.Dec.{ltb, leb, eqb}
use borrow.Author.Tests.{le-leb, lt-leb}
use Rattle.rules.specs.Bytes.{same, part}
use Rattle.rules.specs.Tlv.{length_at, head_of, head_at}
use Rattle.rules.specs.Tlvs.{Tlvs, done, past, tlv, tlvs}
use Rattle.rules.specs.Shape.{attributes_in, attributes_end}
use Rattle.rules.specs.Page.{spot_or, content_at, row_of, page_head, page_row, part_in, page_part, bytes_of, after_one, unlock, service}
use Rattle.rules.specs.Card.{Slot, Guard, unlocked, locked}
use Rattle.rules.specs.Keep.{cleared, unlocks, opened_by}
use Rattle.rules.specs.Carried.{equal, Cutting, cutting, too_few, cut_after, one_more, two_more, measured, Field, field, field_then, fields, past_attributes, inside, page_fields, holding, carries, presents}
use Rattle.rules.specs.Hidden.{unguarded}
use Rattle.rules.proofs.Choices.{both, not_so}
use Rattle.rules.proofs.Writes.{same_eq, same_refl}
use Rattle.rules.proofs.Offsets.{tests}
use Rattle.rules.proofs.BlankTests.{neither_left, neither_right, equal_same}
use Rattle.rules.proofs.StaysCardStore.{cleared_free}
use Rattle.rules.proofs.IsolationRows.{length_part, part_none, part_cons, take_part, drop_part, part_all, Row, tlv_in, row_of_lem}
use Rattle.std.specs.Prelude.{Option, Some, None}
use Rattle.rules.specs.declared.Tlv.{Tlv}
use Rattle.rules.specs.declared.Span.{Span}

-- the hidden service: no ID is none's
unfoldable pub hidden : List ℕ → List ℕ → Bool
hidden service id = cond (eqb (length id) 0) false (equal id service)

-- what a TLV found by its place cuts off
abbrev cut_by : List ℕ → ℕ → Option Tlv → Cutting
cut_by s end (Some h) = cutting (part s h.start h.stop) (part s h.stop end)
cut_by s end None = too_few

abbrev field_by : (List ℕ → List Field) → List ℕ → ℕ → Option Tlv → List Field
field_by more s end (Some h) = field h.tag (part s h.start h.stop) ∷ more (part s h.stop end)
field_by more s end None = []

-- the TLVs of a row, by tags and values
abbrev fields_of : List ℕ → Tlvs → List Field
fields_of s (done p) = []
fields_of s (past p) = []
fields_of s (tlv tag at start stop rest) = field tag (part s start stop) ∷ fields_of s rest

module _ (s : List ℕ) (end : ℕ) (fits : end ≤ length s) where
  cut_after_is : (tag n start : ℕ) → start ≤ end → cut_after n (part s start end) ≡ cut_by s end (head_of tag end (Some (n, start)))
  unfolding cut_after head_of
  cut_after_is tag n start h =
      rw (length_part s start end fits)
      (both (ltb (end - start) n)
      (λ t. rw t)
      (λ t. rw (t, take_part s n start end (omega tests), drop_part s n start end)))

  one_more_is : (tag at : ℕ) → one_more (part s (at + 1) end) ≡ cut_by s end (head_of tag end (cond (ltb (end - at) 2) None (Some ((get_or s (at + 1) 0), (at + 2)))))
  unfolding one_more head_of
  one_more_is tag at =
      both (ltb (end - at) 2)
      (λ t. rw (t, part_none s (at + 1) end (omega tests)))
      (λ t. let e : at + 1 + 1 ≡ at + 2 = omega arith in
      rw (t, part_cons s (at + 1) end (omega tests) fits, e) (cut_after_is tag (get_or s (at + 1) 0) (at + 2) (omega tests)))

  two_more_is : (tag at : ℕ) → two_more (part s (at + 1) end) ≡ cut_by s end (head_of tag end (cond (ltb (end - at) 3) None (Some ((get_or s (at + 1) 0 * 256 + get_or s (at + 2) 0), (at + 3)))))
  unfolding two_more head_of
  two_more_is tag at =
      let e : at + 1 + 1 ≡ at + 2 = omega arith in
      let f : at + 2 + 1 ≡ at + 3 = omega arith in
      both (ltb (end - at) 3)
      (λ t. both (leb end (at + 1))
      (λ u. rw (t, part_none s (at + 1) end (omega tests)))
      (λ u. rw (t, part_cons s (at + 1) end (omega tests) fits, e, part_none s (at + 2) end (omega tests))))
      (λ t. rw (t, part_cons s (at + 1) end (omega tests) fits, e, part_cons s (at + 2) end (omega tests) fits, f)
      (cut_after_is tag (get_or s (at + 1) 0 * 256 + get_or s (at + 2) 0) (at + 3) (omega tests)))

  measured_is : (tag at : ℕ) → measured (part s at end) ≡ cut_by s end (head_of tag end (length_at s at end))
  unfolding length_at measured head_of
  measured_is tag at =
      both (leb end at)
      (λ t. rw (t, part_none s at end (omega tests)))
      (λ t. rw (t, part_cons s at end (omega tests) fits)
      (both (ltb (get_or s at 0) 0x80)
      (λ u. rw u (cut_after_is tag (get_or s at 0) (at + 1) (omega tests)))
      (λ u. rw u (both (eqb (get_or s at 0) 0x81)
      (λ v. rw v (one_more_is tag at))
      (λ v. rw v (both (eqb (get_or s at 0) 0x82)
      (λ w. rw w (two_more_is tag at))
      (λ w. rw w)))))))

  -- the search of the bytes finds the TLVs of the row
  field_then_lem : (more : List ℕ → List Field) (tag : ℕ) (l : Option (ℕ × ℕ)) → field_then more tag (cut_by s end (head_of tag end l)) ≡ field_by more s end (head_of tag end l)
  unfolding head_of field_then
  field_then_lem more tag (Some p) = both (ltb (end - p.1) p.0) (λ t. rw t) (λ t. rw t)
  field_then_lem more tag None = refl

  fields_next : (n at : ℕ) → at < end → fields (suc n) (part s at end) ≡ field_by (λ r. fields n r) s end (head_at s at end)
  unfolding fields head_at
  fields_next n at h =
      rw (part_cons s at end h fits, lt-leb end at h, measured_is (get_or s at 0) (at + 1)) (field_then_lem (λ r. fields n r) (get_or s at 0) (length_at s (at + 1) end))

  fields_none : (n : ℕ) → fields n [] ≡ []
  unfolding fields
  fields_none zero = refl
  fields_none (suc n) = refl

  past_end : (at : ℕ) → end ≤ at → head_at s at end ≡ None
  unfolding head_at
  past_end at h = rw (le-leb end at h)

  fields_are : (r : Tlvs) (n at : ℕ) → end - at ≤ n → Row s end at r → fields n (part s at end) ≡ fields_of s r
  fields_are (done p) n at h k = rw (part_none s at end k.1) (fields_none n)
  fields_are (past p) zero at h k = rw (part_none s at end (omega arith)) (fields_none 0)
  fields_are (past p) (suc n) at h k =
      both (leb end at)
      (λ t. rw (part_none s at end (omega tests)) (fields_none (suc n)))
      (λ t. fields_next n at (omega tests) ∙ rw k.1)
  fields_are (tlv tag place start stop rest) zero at h k = let i = tlv_in s at end tag start stop k.1 in absurd (omega arith)
  fields_are (tlv tag place start stop rest) (suc n) at h k =
      let i = tlv_in s at end tag start stop k.1 in
      fields_next n at (omega arith) ∙ rw k.1 (ap (λ (l : List Field). field tag (part s start stop) ∷ l) (fields_are rest n stop (omega arith) k.2))

  past_attributes_lem : (n at : ℕ) → at + n ≡ end → past_attributes (part s at end) ≡ part s (spot_or end (attributes_in n s at)) end
  unfolding past_attributes attributes_in spot_or
  past_attributes_lem zero at h = rw (part_none s at end (omega arith), part_none s end end (omega arith))
  past_attributes_lem (suc n) at h =
      rw (part_cons s at end (omega arith) fits)
      (both (ltb (get_or s at 0) 0x80) (λ t. rw t) (λ t. rw t (past_attributes_lem n (at + 1) (omega arith))))

  inside_is : (tag start : ℕ) → start ≤ end → cond (ltb tag 0x80) (part s start end) (past_attributes (part s start end)) ≡ part s (content_at s tag start end) end
  unfolding content_at attributes_end spot_or
  inside_is tag start h = both (ltb tag 0x80) (λ t. rw t) (λ t. rw t (past_attributes_lem (end - start) start (omega arith)))

-- the TLVs that the search finds are those of the page's row
module _ (s : List ℕ) where
  page_fields_lem : (r : Tlvs) → Row s (length s) 0 r → fields (length s) (inside (fields_of s r)) ≡ fields_of s (page_row s)
  unfolding inside page_row page_head row_of
  page_fields_lem (done p) k = rw (past_end s (length s) (omega arith) 0 k.1) (fields_none s (length s) (omega arith) (length s))
  page_fields_lem (past p) k = rw k.1 (fields_none s (length s) (omega arith) (length s))
  page_fields_lem (tlv tag place start stop rest) k =
      let i = tlv_in s 0 (length s) tag start stop k.1 in
      rw (k.1, inside_is s stop i.2 tag start i.1)
      (fields_are s stop i.2 (tlvs 0 s (content_at s tag start stop) stop) (length s) (content_at s tag start stop) (omega arith) (row_of_lem s stop (content_at s tag start stop)))

  page_fields_are : page_fields s ≡ fields_of s (page_row s)
  unfolding page_fields
  page_fields_are =
      let r = tlvs 0 s 0 (length s) in
      let k = row_of_lem s (length s) 0 in
      let e : fields (length s) s ≡ fields_of s r = rw (part_all s) at (fields_are s (length s) (omega arith) r (length s) 0 (omega arith) k) in
      rw e (page_fields_lem r k)

  -- no TLV of a tag holds w, so the first one does not
  abbrev Unlike : ℕ → List ℕ → Option Span → Type 0
  Unlike n w (Some p) = equal (drop n (part s p.from p.end)) w ≡ false
  Unlike n w None = Unit {0}

  not_holding : (t n : ℕ) (w : List ℕ) (r : Tlvs) → holding t n w (fields_of s r) ≡ false → Unlike n w (part_in t r)
  unfolding holding part_in
  not_holding t n w (done p) h = tt
  not_holding t n w (past p) h = tt
  not_holding t n w (tlv tag at start stop rest) h =
      let x = equal (drop n (part s start stop)) w in
      let y = holding t n w (fields_of s rest) in
      both (eqb tag t)
      (λ e. rw e (rw e at (neither_left (eqb tag t && x) y h)))
      (λ e. rw e (not_holding t n w rest (neither_right (eqb tag t && x) y h)))

  other_id : (id : List ℕ) (p : Option Span) → Unlike 0 id p → hidden id (bytes_of s p) ≡ false
  unfolding bytes_of hidden
  other_id id (Some p) h = both (eqb (length (part s p.from p.end)) 0) (λ e. rw e) (λ e. rw (e, h))
  other_id id None h = refl

  pub uncarried : (id : List ℕ) → carries id s ≡ false → hidden id (service s) ≡ false
  unfolding carries service page_part
  uncarried id h = other_id id (part_in 0x06 (page_row s)) (not_holding 0x06 0 id (page_row s) (rw page_fields_are at h))

  other_word : (w : List ℕ) (p : Option Span) → Unlike 1 w p → unlocks w s (after_one p) ≡ false
  unfolding unlocks after_one
  other_word w (Some p) h =
      let k : equal (part s (p.from + 1) p.end) w ≡ false = rw (drop_part s 1 p.from p.end) at h in
      not_so (same w (part s (p.from + 1) p.end))
      (λ e. false≢true (sym (rw (sym (same_eq w (part s (p.from + 1) p.end) e)) at k) ∙ equal_same w w ∙ same_refl w))
  other_word w None h = refl

  unpresented : (w : List ℕ) → presents (locked w) s ≡ false → unlocks w s (unlock s) ≡ false
  unfolding presents unlock page_part
  unpresented w h = other_word w (part_in 0x03 (page_row s)) (not_holding 0x03 1 w (page_row s) (rw page_fields_are at h))

-- so what is left is what no password guards
pub unopened : (g : Guard) (s : List ℕ) (xs : List Slot) → presents g s ≡ false → opened_by s g xs ≡ unguarded g xs
unfolding opened_by unguarded
unopened unlocked s xs h = refl
unopened (locked word) s xs h = ap (λ (t : Bool). cond t xs (cleared xs)) (unpresented s word h) ∙ cleared_free xs
