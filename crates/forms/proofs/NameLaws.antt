-- The ways through the functions on names and counts, in the shape of their needs.
-- Assumes nothing.
use Rattle.rules.specs.Built.{some_tlv}
use Prim.Native.Nat.{ℕ, ◌+◌, ◌-◌, ◌≤◌, ◌<◌, ◌%◌}
use mathlib.Core.Bool.{Bool, true, false}
use mathlib.Core.List.{List}
use mathlib.Core.Path.{◌≡◌, sym, ap, ◌∙◌}
use native.Mathlib.Omega.{arith}
use lib.ListN.{length, take, drop}
use lib.Dec.{leb, ltb}
use borrow.Author.Tests.{lt-ltb, le-ltb, le-leb, lt-leb, eq-eqb, ne_eqb}
use Rattle.rules.specs.Bytes.{part}
use Rattle.rules.specs.Tlv.{head_at}
use Rattle.rules.specs.Tlvs.{tlvs, plain, count}
use Rattle.rules.specs.Grammar.{unit_kind, misplaced}
use Rattle.rules.specs.Pieces.{pieces}
use Rattle.rules.specs.Page.{content_at, row_of, page_head, page_row, part_in, anchor_in, holds}
use Rattle.rules.specs.Reference.{mark}
use Rattle.rules.specs.Forms.{bad_reference, out_of_place, taken_in, is_marked, bad_anchor, size_of, out_of_size, long_reference, big_pool, crowded, too_big}
use Rattle.leaf.proofs.Cases.{both, tests}
use Rattle.tlv.proofs.Bounds.{head_tlv}
use Rattle.tlv.proofs.Rows.{row_done, row_tlv, row_past}
use Rattle.rules.specs.declared.Span.{Span}
use Rattle.page.specs.Span.{span_of}
use Rattle.page.proofs.Spans.{page_within, span_row, span_within}
use Rattle.std.specs.Prelude.{Option, None, Some}
use Rattle.rules.specs.declared.Tlv.{Tlv}

module _ (s : List ℕ) (r : Span) (is : r ≡ span_of s (page_head s)) where
  pub row_within : r.end ≤ length s
  row_within = rw is (span_within s (length s) (page_head s) (page_within s)).1

  row_at : tlvs 0 s r.from r.end ≡ page_row s
  unfolding page_row
  row_at = rw is (span_row s (page_head s))

  pub row_count : (tag n : ℕ) → n ≡ count tag (tlvs 0 s r.from r.end) → n ≡ count tag (page_row s)
  row_count tag n e = e ∙ ap (count tag) row_at

  pub row_taken : (name : List ℕ) (place : ℕ) → taken_in s name place (tlvs 0 s r.from r.end) ≡ taken_in s name place (page_row s)
  row_taken name place = ap (taken_in s name place) row_at

pub ruleset row_laws = (row_within, row_count, row_taken)

-- `w` is what the whole row comes to, and `inv` that the rest of it comes to the same
module _ (s name : List ℕ) (place at end : ℕ) (w : Bool) (inv : taken_in s name place (tlvs 0 s at end) ≡ w) where
  module _ (r : Option Tlv) (is : r ≡ head_at s at end) where
    pub taken_past : r ≡ None → false ≡ w
    unfolding taken_in
    taken_past x =
        both (ltb at end) (λ t. sym (simp (row_past s at end (omega tests) (sym is ∙ x))) ∙ inv) (λ t. sym (simp (row_done s at end (omega tests))) ∙ inv)

    module _ (v : Tlv) (x : r ≡ Some v) where
      h : at < end
      h = let b = head_tlv s at end (sym is ∙ x) in omega arith

      pub taken_less : end - v.stop < end - at
      taken_less = let b = head_tlv s at end (sym is ∙ x) in omega arith

      pub taken_within : end ≤ length s → v.stop ≤ length s
      taken_within g = let b = head_tlv s at end (sym is ∙ x) in omega arith

      pub taken_later : place < v.stop → false ≡ w
      unfolding taken_in
      taken_later y = sym (simp (row_tlv s at end h (sym is ∙ x), lt-ltb place v.stop y)) ∙ inv

      module _ (y : v.stop ≤ place) where
        pub taken_other : (v.tag % 128 ≡ 0x0A → ⊥) → taken_in s name place (tlvs 0 s v.stop end) ≡ w
        unfolding taken_in plain
        taken_other u = sym (simp (row_tlv s at end h (sym is ∙ x), le-ltb place v.stop y, ne_eqb (v.tag % 128) 0x0A u)) ∙ inv

        module _ (u : v.tag % 128 ≡ 0x0A) (p : ℕ) (q : p ≡ content_at s v.tag v.start v.stop) (b : Bool) (f : b ≡ holds s name (part_in 0x0B (tlvs 0 s p v.stop))) where
          named : holds s name (anchor_in s (some_tlv v.tag v.start v.stop)) ≡ b
          unfolding anchor_in row_of
          named = sym (rw q at f)

          pub taken_here : b ≡ true → true ≡ w
          unfolding taken_in plain
          taken_here z = sym (simp (row_tlv s at end h (sym is ∙ x), le-ltb place v.stop y, eq-eqb (v.tag % 128) 0x0A u, named ∙ z)) ∙ inv

          pub taken_on_lem : b ≡ false → taken_in s name place (tlvs 0 s v.stop end) ≡ w
          unfolding taken_in plain
          taken_on_lem z = sym (simp (row_tlv s at end h (sym is ∙ x), le-ltb place v.stop y, eq-eqb (v.tag % 128) 0x0A u, named ∙ z)) ∙ inv

pub ruleset taken_laws = (taken_past, taken_less, taken_within, taken_later, taken_other, taken_here, taken_on_lem)

module _ (s : List ℕ) (last cell tag start stop : ℕ) (b : Bool) (e : b ≡ misplaced last cell) where
  pub place_wrong : b ≡ true → true ≡ out_of_place s last cell tag start stop
  unfolding out_of_place
  place_wrong x = simp (sym e ∙ x)

  module _ (x : b ≡ false) where
    pub place_reference : tag ≡ 0x0C → (m : Option ℕ) → m ≡ mark (take (stop - start) (drop start s)) → (r : Bool) → r ≡ bad_reference (stop - start) m → r ≡ out_of_place s last cell tag start stop
    unfolding out_of_place part
    place_reference t m f r g = g ∙ simp (f, sym e ∙ x, eq-eqb tag 0x0C t)

    pub place_right : (tag ≡ 0x0C → ⊥) → false ≡ out_of_place s last cell tag start stop
    unfolding out_of_place
    place_right t = simp (sym e ∙ x, ne_eqb tag 0x0C t)

pub ruleset place_laws = (place_wrong, place_reference, place_right)

module _ (s : List ℕ) (at tag start stop : ℕ) where
  pub anchor_none : (tag ≡ 0x0B → ⊥) → false ≡ bad_anchor s at tag start stop
  unfolding bad_anchor
  anchor_none t = simp (ne_eqb tag 0x0B t)

  module _ (t : tag ≡ 0x0B) (m : Option ℕ) (f : m ≡ mark (take (stop - start) (drop start s))) (b : Bool) (e : b ≡ is_marked m) where
    pub anchor_marked : b ≡ true → true ≡ bad_anchor s at tag start stop
    unfolding bad_anchor part
    anchor_marked x = simp (eq-eqb tag 0x0B t, sym f, sym e ∙ x)

    pub anchor_taken : b ≡ false → (r : Bool) → r ≡ taken_in s (take (stop - start) (drop start s)) at (page_row s) → r ≡ bad_anchor s at tag start stop
    unfolding bad_anchor part
    anchor_taken x r g = g ∙ simp (eq-eqb tag 0x0B t, sym f, sym e ∙ x)

pub ruleset anchor_laws = (anchor_none, anchor_marked, anchor_taken)

more_with : (a b n : ℕ) → b ≤ a → leb (a - b) n ≡ leb a (b + n)
more_with a b n h = both (leb a (b + n)) (λ t. le-leb (a - b) n (omega tests) ∙ sym t) (λ t. lt-leb (a - b) n (omega tests) ∙ sym t)

module _ (s : List ℕ) (within from at tag : ℕ) where
  pub crowded_unit : tag % 128 ≡ 0x0A → (n : ℕ) → n ≡ count 0x0A (tlvs 0 s from at) → leb 64 n ≡ crowded s within from at tag
  unfolding crowded plain
  crowded_unit t n e = simp (e, eq-eqb (tag % 128) 0x0A t)

  module _ (t : tag % 128 ≡ 0x0A → ⊥) where
    pub crowded_none : (tag % 128 ≡ 0x08 → ⊥) → false ≡ crowded s within from at tag
    unfolding crowded plain
    crowded_none u = simp (ne_eqb (tag % 128) 0x0A t, ne_eqb (tag % 128) 0x08 u)

    module _ (u : tag % 128 ≡ 0x08) (n : ℕ) (e : n ≡ count 0x08 (tlvs 0 s from at)) where
      pub crowded_page : (within ≡ unit_kind → ⊥) → leb 32 n ≡ crowded s within from at tag
      unfolding crowded plain
      crowded_page w = simp (e, ne_eqb (tag % 128) 0x0A t, eq-eqb (tag % 128) 0x08 u, ne_eqb within unit_kind w)

      module _ (w : within ≡ unit_kind) (own : ℕ) (f : own ≡ count 0x08 (page_row s)) where
        pub crowded_already : 32 ≤ own → true ≡ crowded s within from at tag
        unfolding crowded plain
        crowded_already h = simp (ne_eqb (tag % 128) 0x0A t, eq-eqb (tag % 128) 0x08 u, eq-eqb within unit_kind w, sym e, sym f, le-leb 32 (own + n) (omega arith))

        pub crowded_together : own < 32 → leb (32 - own) n ≡ crowded s within from at tag
        unfolding crowded plain
        crowded_together h = more_with 32 own n (omega arith) ∙ simp (ne_eqb (tag % 128) 0x0A t, eq-eqb (tag % 128) 0x08 u, eq-eqb within unit_kind w, e, f)

pub ruleset crowded_laws = (crowded_unit, crowded_none, crowded_page, crowded_already, crowded_together)

module _ (s : List ℕ) (within from at tag start stop l : ℕ) (g : l ≡ size_of tag) (b : Bool) (e : b ≡ out_of_size l (stop - start)) where
  sized : b ≡ out_of_size (size_of tag) (stop - start)
  sized = rw g at e

  pub big_size : b ≡ true → true ≡ too_big s within from at tag start stop
  unfolding too_big
  big_size x = simp (sym sized ∙ x)

  module _ (x : b ≡ false) where
    pub big_reference : tag ≡ 0x0C → (m : Option ℕ) → m ≡ mark (take (stop - start) (drop start s)) → (r : Bool) → r ≡ long_reference (stop - start) m → r ≡ too_big s within from at tag start stop
    unfolding too_big part
    big_reference t m f r q = q ∙ simp (f, sym sized ∙ x, eq-eqb tag 0x0C t)

    module _ (t : tag ≡ 0x0C → ⊥) where
      pub big_pool_lem : tag ≡ 0x07 → (r : Bool) → r ≡ big_pool 0 (pieces false s start stop) → r ≡ too_big s within from at tag start stop
      unfolding too_big
      big_pool_lem u r q = q ∙ simp (sym sized ∙ x, ne_eqb tag 0x0C t, eq-eqb tag 0x07 u)

      pub big_crowded : (tag ≡ 0x07 → ⊥) → (r : Bool) → r ≡ crowded s within from at tag → r ≡ too_big s within from at tag start stop
      unfolding too_big
      big_crowded u r q = q ∙ simp (sym sized ∙ x, ne_eqb tag 0x0C t, ne_eqb tag 0x07 u)

pub ruleset big_laws = (big_size, big_reference, big_pool_lem, big_crowded)
