-- The ways through the functions over a unit's row, in the shape of what their proofs need.
-- Assumes nothing.
use Prim.Native.Nat.{ℕ, ◌≤◌, ◌<◌, ◌%◌}
use mathlib.Core.Bool.{Bool, true, false}
use mathlib.Core.List.{List}
use mathlib.Core.Path.{◌≡◌, refl, sym, ap, subst, ◌∙◌}
use native.Mathlib.Omega.{arith}
use lib.ListN.{length}
use lib.Dec.{eqb}
use borrow.Author.Tests.{eq-eqb, ne_eqb}
use Rattle.rules.specs.Tlv.{head_at}
use Rattle.rules.specs.Tlvs.{tlvs, count}
use Rattle.rules.specs.Shape.{attribute}
use Rattle.rules.specs.Page.{page_head, page_row, attribute_of, part_in, unit_at, unit_row, unit_count, anchor_in, anchor, unrecorded, is_code, entry_in, entry_of, is_place_in, is_place, code_in, code_at}
use Rattle.tlv.proofs.Bounds.{HeadIn, head_in}
use Rattle.tlv.proofs.Rows.{row_done, row_tlv, row_past, row_next, row_ends}
use Rattle.rules.specs.declared.Span.{Span}
use Rattle.page.specs.Span.{span_of}
use Rattle.page.proofs.Spans.{Within, span_row, span_within}
use Rattle.unit.proofs.Nths.{unit_within}
use Rattle.std.specs.Prelude.{Option, Some, None}
use Rattle.rules.specs.declared.Tlv.{Tlv}

pub count_found : (s : List ℕ) (r : Span) → r ≡ span_of s (page_head s) → (n : ℕ) → n ≡ count 0x0A (tlvs 0 s r.from r.end) → n ≡ unit_count s
unfolding unit_count page_row
count_found s r is n e = (rw is at e) ∙ ap (count 0x0A) (span_row s (page_head s))

-- what is asked of a unit's row is asked of its span
module _ (s : List ℕ) (k : ℕ) (r : Span) (is : r ≡ span_of s (unit_at s k)) where
  pub unit_row_inside : r.end ≤ length s
  unit_row_inside = rw is (span_within s (length s) (unit_at s k) (unit_within s k)).1

  pub anchor_found : (p : Option Span) → p ≡ part_in 0x0B (tlvs 0 s r.from r.end) → p ≡ anchor s k
  unfolding anchor anchor_in
  anchor_found p e = (rw is at e) ∙ ap (part_in 0x0B) (span_row s (unit_at s k))

  pub entry_found : (n : ℕ) → n ≡ entry_in (tlvs 0 s r.from r.end) → n ≡ entry_of s k
  unfolding entry_of unit_row
  entry_found n e = (rw is at e) ∙ ap entry_in (span_row s (unit_at s k))

  pub place_found : (place : ℕ) (b : Bool) → b ≡ is_place_in place (tlvs 0 s r.from r.end) → b ≡ is_place s k place
  unfolding is_place unit_row
  place_found place b e = (rw is at e) ∙ ap (is_place_in place) (span_row s (unit_at s k))

pub ruleset unit_row_laws = (unit_row_inside, anchor_found, entry_found, place_found)

module _ (s : List ℕ) (k : ℕ) (r : Option Tlv) (is : r ≡ unit_at s k) where
  pub unrecorded_none : r ≡ None → false ≡ unrecorded s k
  unfolding unrecorded attribute_of
  unrecorded_none x = simp (sym is ∙ x)

  pub unrecorded_held : (v : Tlv) → r ≡ Some v → (a : ℕ) → a ≡ attribute s v.tag v.start v.stop → eqb (a % 2) 1 ≡ unrecorded s k
  unfolding unrecorded attribute_of
  unrecorded_held v x a y = simp (sym is ∙ x, y)

  pub code_none : (place : ℕ) → r ≡ None → None ≡ code_at s k place
  unfolding code_at code_in
  code_none place x = simp (sym is ∙ x)

  pub code_held : (place : ℕ) (v : Tlv) → r ≡ Some v → (h : Option Tlv) → h ≡ head_at s place v.stop → h ≡ code_at s k place
  unfolding code_at code_in
  code_held place v x h y = simp (sym is ∙ x) y

pub ruleset unit_laws = (unrecorded_none, unrecorded_held, code_none, code_held)

-- where the byte codes of a unit lie
wider : (at end n : ℕ) (h : Option Tlv) → end ≤ n → HeadIn at end h → HeadIn at n h
wider at end n (Some h) le w = omega arith
wider at end n None le w = tt

code_in_lem : (s : List ℕ) (place n : ℕ) (h : Option Tlv) → Within n h → HeadIn place n (code_in s place h)
unfolding code_in
code_in_lem s place n (Some h) w = wider place h.stop n (head_at s place h.stop) w.1 (head_in s place h.stop)
code_in_lem s place n None w = tt

pub code_tlv : (s : List ℕ) (k place : ℕ) {v : Tlv} → code_at s k place ≡ Some v → (place < v.start) × (v.start ≤ v.stop) × (v.stop ≤ length s)
unfolding code_at
code_tlv s k place e = subst (HeadIn place (length s)) e (code_in_lem s place (length s) (unit_at s k) (unit_within s k))

-- `w` is what the whole row comes to, and `inv` that the rest comes to the same
module _ (s : List ℕ) (at end w : ℕ) (inv : entry_in (tlvs 0 s at end) ≡ w) where
  module _ (r : Option Tlv) (is : r ≡ head_at s at end) where
    pub entry_ends : r ≡ None → at ≡ w
    unfolding entry_in
    entry_ends x = sym (row_ends s at end entry_in (sym is ∙ x) refl refl) ∙ inv

    module _ (u : Tlv) (x : r ≡ Some u) (v : Bool) (e : v ≡ is_code u.tag) where
      pub entry_this : v ≡ true → at ≡ w
      unfolding entry_in
      entry_this y = sym (simp (row_next s at end (sym is ∙ x), sym e ∙ y)) ∙ inv

      pub entry_other : v ≡ false → entry_in (tlvs 0 s u.stop end) ≡ w
      unfolding entry_in
      entry_other y = sym (simp (row_next s at end (sym is ∙ x), sym e ∙ y)) ∙ inv

pub ruleset entry_laws = (entry_ends, entry_this, entry_other)

module _ (s : List ℕ) (place at end : ℕ) (w : Bool) (inv : is_place_in place (tlvs 0 s at end) ≡ w) where
  pub place_done : end ≤ at → eqb place at ≡ w
  unfolding is_place_in
  place_done h = sym (simp (row_done s at end h)) ∙ inv

  module _ (h : at < end) (r : Option Tlv) (is : r ≡ head_at s at end) where
    pub place_past : r ≡ None → false ≡ w
    unfolding is_place_in
    place_past x = sym (simp (row_past s at end h (sym is ∙ x))) ∙ inv

    module _ (u : Tlv) (x : r ≡ Some u) (v : Bool) (e : v ≡ is_code u.tag) where
      pub place_this : v ≡ true → place ≡ at → true ≡ w
      unfolding is_place_in
      place_this y z = sym (simp (row_tlv s at end h (sym is ∙ x), sym e ∙ y, eq-eqb _ _ z)) ∙ inv

      pub place_other : v ≡ true → (place ≡ at → ⊥) → is_place_in place (tlvs 0 s u.stop end) ≡ w
      unfolding is_place_in
      place_other y z = sym (simp (row_tlv s at end h (sym is ∙ x), sym e ∙ y, ne_eqb _ _ z)) ∙ inv

      pub place_none : v ≡ false → is_place_in place (tlvs 0 s u.stop end) ≡ w
      unfolding is_place_in
      place_none y = sym (simp (row_tlv s at end h (sym is ∙ x), sym e ∙ y)) ∙ inv

pub ruleset place_laws = (place_done, place_past, place_this, place_other, place_none)
