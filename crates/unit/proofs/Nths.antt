-- The n-th TLV with a tag: the ways through `nth_tag`, where it lies, and that it is the unit where the tag is '0A'.
-- Assumes nothing.
use Prim.Native.Nat.{ℕ, ◌-◌, ◌≤◌, ◌%◌}
use mathlib.Core.List.{List}
use mathlib.Core.Path.{◌≡◌, refl, sym, ap, subst, ◌∙◌}
use native.Mathlib.Omega.{arith}
use lib.ListN.{length}
use lib.Dec.{eqb}
use borrow.Author.Tests.{eq-eqb, ne_eqb}
use Rattle.rules.specs.Tlv.{head_at}
use Rattle.rules.specs.Tlvs.{Tlvs, done, past, tlv, tlvs, plain}
use Rattle.rules.specs.Page.{page_head, page_row, unit_in, unit_at}
use Rattle.leaf.proofs.Cases.{both}
use Rattle.tlv.proofs.Rows.{row_next, row_ends}
use Rattle.tlv.proofs.RowBounds.{RowIn, tlvs_in}
use Rattle.rules.specs.declared.Span.{Span}
use Rattle.page.specs.Span.{span_of}
use Rattle.page.proofs.Spans.{Within, within_tlv, page_within, span_row, span_within}
use Rattle.unit.specs.Nth.{nth_in}
use Rattle.std.specs.Prelude.{Option, Some, None}
use Rattle.rules.specs.declared.Tlv.{Tlv}

-- `w` is what the whole row comes to, and `inv` that the rest comes to the same
module _ (s : List ℕ) (tag n at end : ℕ) (w : Option Tlv) (inv : nth_in tag n (tlvs 0 s at end) ≡ w) where
  module _ (r : Option Tlv) (is : r ≡ head_at s at end) where
    pub nth_ends : r ≡ None → None ≡ w
    unfolding nth_in
    nth_ends x = sym (row_ends s at end (nth_in tag n) (sym is ∙ x) refl refl) ∙ inv

    module _ (v : Tlv) (x : r ≡ Some v) where
      pub nth_other : (v.tag % 128 ≡ tag → ⊥) → nth_in tag n (tlvs 0 s v.stop end) ≡ w
      unfolding nth_in plain
      nth_other y = sym (simp (row_next s at end (sym is ∙ x), ne_eqb _ _ y)) ∙ inv

      module _ (y : v.tag % 128 ≡ tag) where
        pub nth_this : n ≡ 0 → Some v ≡ w
        unfolding nth_in plain
        nth_this z = sym (simp (row_next s at end (sym is ∙ x), eq-eqb _ _ y, eq-eqb n 0 z)) ∙ inv

        pub nth_next : (n ≡ 0 → ⊥) → nth_in tag (n - 1) (tlvs 0 s v.stop end) ≡ w
        unfolding nth_in plain
        nth_next z = sym (simp (row_next s at end (sym is ∙ x), eq-eqb _ _ y, ne_eqb n 0 z)) ∙ inv

pub ruleset nth_laws = (nth_ends, nth_other, nth_this, nth_next)

nth_in_lem : (tag n from end : ℕ) (row : Tlvs) → RowIn from end row → Within end (nth_in tag n row)
unfolding nth_in RowIn
nth_in_lem tag n from end (done p) b = tt
nth_in_lem tag n from end (past p) b = tt
nth_in_lem tag n from end (tlv t at start stop rest) b =
    both (eqb (plain t) tag)
    (λ e. both (eqb n 0) (λ z. simp (e, z) (omega arith)) (λ z. simp (e, z) (nth_in_lem tag (n - 1) from end rest b.4)))
    (λ e. simp e (nth_in_lem tag n from end rest b.4))

pub nth_within : (s : List ℕ) (tag n from end : ℕ) → Within end (nth_in tag n (tlvs 0 s from end))
nth_within s tag n from end = nth_in_lem tag n from end (tlvs 0 s from end) (tlvs_in 0 s from end)

nth_unit : (n : ℕ) (row : Tlvs) → nth_in 0x0A n row ≡ unit_in n row
unfolding nth_in unit_in
nth_unit n (done p) = refl
nth_unit n (past p) = refl
nth_unit n (tlv tag at start stop rest) = rw (nth_unit (n - 1) rest, nth_unit n rest)

unit_nth : (s : List ℕ) (k : ℕ) → nth_in 0x0A k (tlvs 0 s (span_of s (page_head s)).from (span_of s (page_head s)).end) ≡ unit_at s k
unfolding unit_at page_row
unit_nth s k = ap (nth_in 0x0A k) (span_row s (page_head s)) ∙ nth_unit k (page_row s)

pub unit_found : (s : List ℕ) (r : Span) → r ≡ span_of s (page_head s) → (k : ℕ) (h : Option Tlv) → h ≡ nth_in 0x0A k (tlvs 0 s r.from r.end) → h ≡ unit_at s k
unit_found s r is k h e = (rw is at e) ∙ unit_nth s k

wider : (n m : ℕ) (h : Option Tlv) → n ≤ m → Within n h → Within m h
wider n m (Some h) le b = omega arith
wider n m None le b = tt

pub unit_within : (s : List ℕ) (k : ℕ) → Within (length s) (unit_at s k)
unit_within s k =
    let row = span_of s (page_head s) in
    let w = span_within s (length s) (page_head s) (page_within s) in
    subst (Within (length s)) (unit_nth s k)
    (wider row.end (length s) (nth_in 0x0A k (tlvs 0 s row.from row.end)) w.1 (nth_within s 0x0A k row.from row.end))

pub unit_stop : (s : List ℕ) (k : ℕ) (r : Option Tlv) → r ≡ unit_at s k → (v : Tlv) → r ≡ Some v → v.stop ≤ length s
unit_stop s k r is v x = (within_tlv (unit_at s k) r (unit_within s k) is x).1
