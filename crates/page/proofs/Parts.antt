-- The ways through `part_in`, `page_part`, `page_attribute`, `element_in` and `element`, in the shape of what their proofs need.
-- Assumes nothing.
use Prim.Native.Nat.{ℕ, ◌+◌, ◌-◌, ◌≤◌, ◌<◌}
use mathlib.Core.Bool.{false}
use mathlib.Core.List.{List}
use mathlib.Core.Path.{◌≡◌, refl, sym, ap, subst, ◌∙◌}
use native.Mathlib.Omega.{arith}
use lib.ListN.{length}
use lib.Dec.{eqb}
use borrow.Author.Tests.{eq-eqb, ne_eqb}
use Rattle.rules.specs.declared.Pair.{Pair}
use Rattle.rules.specs.declared.Pair.TheVariants.{Text, Number, Broken}
use Rattle.rules.specs.Tlv.{head_at}
use Rattle.rules.specs.Tlvs.{Tlvs, done, past, tlv, tlvs}
use Rattle.rules.specs.Pieces.{pair_at, pieces}
use Rattle.rules.specs.Shape.{attribute}
use Rattle.rules.specs.Page.{row_of, page_head, page_row, part_in, page_part, attribute_of, after_one, unlock, element_in, pool_in, pool, element}
use Rattle.leaf.proofs.Cases.{both}
use Rattle.tlv.proofs.Rows.{row_next, row_ends}
use Rattle.tlv.proofs.RowBounds.{RowIn, tlvs_in}
use Rattle.tlv.proofs.PairRows.{pieces_full, pieces_text, pieces_variable, pieces_cut}
use Rattle.rules.specs.declared.Span.{Span}
use Rattle.page.specs.Span.{span_of}
use Rattle.page.proofs.Spans.{Within, page_within, page_stop, span_row, span_within}
use Rattle.std.specs.Prelude.{Option, Some, None}
use Rattle.rules.specs.declared.Tlv.{Tlv}
use Rattle.rules.specs.Built.{some_span}

-- `w` is what the whole row comes to, and `inv` that the rest comes to the same
module _ (s : List ℕ) (tag at end : ℕ) (w : Option Span) (inv : part_in tag (tlvs 0 s at end) ≡ w) where
  module _ (r : Option Tlv) (is : r ≡ head_at s at end) where
    pub part_ends : r ≡ None → None ≡ w
    unfolding part_in
    part_ends x = sym (row_ends s at end (part_in tag) (sym is ∙ x) refl refl) ∙ inv

    module _ (v : Tlv) (x : r ≡ Some v) where
      pub part_this : v.tag ≡ tag → some_span v.start v.stop ≡ w
      unfolding part_in
      part_this y = sym (simp (row_next s at end (sym is ∙ x), eq-eqb _ _ y)) ∙ inv

      pub part_other : (v.tag ≡ tag → ⊥) → part_in tag (tlvs 0 s v.stop end) ≡ w
      unfolding part_in
      part_other y = sym (simp (row_next s at end (sym is ∙ x), ne_eqb _ _ y)) ∙ inv

pub ruleset part_laws = (part_ends, part_this, part_other)

module _ (s : List ℕ) (r : Span) (is : r ≡ span_of s (page_head s)) where
  pub page_row_inside : r.end ≤ length s
  page_row_inside = rw is (span_within s (length s) (page_head s) (page_within s)).1

  pub page_part_found : (tag : ℕ) (p : Option Span) → p ≡ part_in tag (tlvs 0 s r.from r.end) → p ≡ page_part s tag
  unfolding page_part page_row
  page_part_found tag p e = (rw is at e) ∙ ap (part_in tag) (span_row s (page_head s))

pub ruleset page_part_laws = (page_row_inside, page_part_found)

-- a part lies between the ends of its row, and in the page
abbrev PartIn : ℕ → ℕ → Option Span → Type 0
PartIn from end (Some p) = (from < p.from) × (p.from ≤ p.end) × (p.end ≤ end)
PartIn from end None = Unit {0}

part_in_lem : (tag from end : ℕ) (row : Tlvs) → RowIn from end row → PartIn from end (part_in tag row)
unfolding part_in RowIn
part_in_lem tag from end (done p) b = tt
part_in_lem tag from end (past p) b = tt
part_in_lem tag from end (tlv t at start stop rest) b =
    both (eqb t tag) (λ e. simp e (omega arith)) (λ e. simp e (part_in_lem tag from end rest b.4))

pub part_held : (s : List ℕ) (tag from end : ℕ) {v : Span} → part_in tag (tlvs 0 s from end) ≡ Some v → (from < v.from) × (v.from ≤ v.end) × (v.end ≤ end)
part_held s tag from end e = subst (PartIn from end) e (part_in_lem tag from end (tlvs 0 s from end) (tlvs_in 0 s from end))

pub row_part_held : (s : List ℕ) (tag n : ℕ) (h : Option Tlv) → Within n h → {v : Span} → part_in tag (row_of s h) ≡ Some v → (v.from ≤ v.end) × (v.end ≤ n)
row_part_held s tag n h inside e =
    let w = span_within s n h inside in
    let f = part_held s tag (span_of s h).from (span_of s h).end (ap (part_in tag) (span_row s h) ∙ e) in
    omega arith

pub page_part_held : (s : List ℕ) (tag : ℕ) {v : Span} → page_part s tag ≡ Some v → (v.from ≤ v.end) × (v.end ≤ length s)
unfolding page_part page_row
page_part_held s tag e = row_part_held s tag (length s) (page_head s) (page_within s) e

pub held_stop : (s : List ℕ) (tag : ℕ) (p : Option Span) → p ≡ page_part s tag → (v : Span) → p ≡ Some v → v.end ≤ length s
held_stop s tag p is v x = (page_part_held s tag (sym is ∙ x)).1

module _ (s : List ℕ) (h r : Option Tlv) (is : r ≡ h) where
  pub attribute_none : r ≡ None → 0 ≡ attribute_of s h
  unfolding attribute_of
  attribute_none x = simp (sym is ∙ x)

  pub attribute_held : (v : Tlv) → r ≡ Some v → (a : ℕ) → a ≡ attribute s v.tag v.start v.stop → a ≡ attribute_of s h
  unfolding attribute_of
  attribute_held v x a y = simp (sym is ∙ x) y

pub ruleset attribute_laws = (attribute_none, attribute_held, page_stop)

module _ (s : List ℕ) (p : Option Span) where
  module _ (is : p ≡ page_part s 0x03) where
    pub unlock_none : p ≡ None → None ≡ unlock s
    unfolding unlock after_one
    unlock_none x = simp (sym is ∙ x)

    pub unlock_held : (v : Span) → p ≡ Some v → some_span (v.from + 1) v.end ≡ unlock s
    unfolding unlock after_one
    unlock_held v x = simp (sym is ∙ x)

  module _ (n : ℕ) (is : p ≡ page_part s 0x07) where
    pub element_none : p ≡ None → None ≡ element s n
    unfolding element pool pool_in element_in
    element_none x = simp (sym is ∙ x)

    pub element_held : (v : Span) → p ≡ Some v → (q : Option Span) → q ≡ element_in n (pieces false s v.from v.end) → q ≡ element s n
    unfolding element pool pool_in
    element_held v x q y = simp (sym is ∙ x) y

pub ruleset unlock_laws = (unlock_none, unlock_held)

pub ruleset element_laws = (held_stop, element_none, element_held)

module _ (s : List ℕ) (n at end : ℕ) (w : Option Span) (inv : element_in n (pieces false s at end) ≡ w) where
  pub element_done : end ≤ at → None ≡ w
  unfolding element_in
  element_done h = sym (simp (pieces_full false s at end h)) ∙ inv

  module _ (h : at < end) (p : Pair) (is : p ≡ pair_at false s at end) where
    pub element_cut : p ≡ Broken → None ≡ w
    unfolding element_in
    element_cut x = sym (simp (pieces_cut false s at end h (sym is ∙ x))) ∙ inv

    pub element_pass : (k next : ℕ) → p ≡ Number k next → element_in n (pieces false s next end) ≡ w
    unfolding element_in
    element_pass k next x = sym (simp (pieces_variable false s at end h (sym is ∙ x))) ∙ inv

    module _ (from to : ℕ) (x : p ≡ Text from to) where
      pub element_this : n ≡ 0 → some_span from to ≡ w
      unfolding element_in
      element_this y = sym (simp (pieces_text false s at end h (sym is ∙ x), eq-eqb n 0 y)) ∙ inv

      pub element_next : (n ≡ 0 → ⊥) → element_in (n - 1) (pieces false s to end) ≡ w
      unfolding element_in
      element_next y = sym (simp (pieces_text false s at end h (sym is ∙ x), ne_eqb n 0 y)) ∙ inv

pub ruleset element_in_laws = (element_done, element_cut, element_pass, element_this, element_next)
