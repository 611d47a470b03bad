-- The ways through `part_is`, `unit_from`, `own_unit`, `is_own` and `target`, in the shape of what their proofs need.
-- Assumes nothing.
use Rattle.rules.specs.Built.{some_tlv}
use Prim.Native.Nat.{ℕ, ◌+◌, ◌-◌, ◌≤◌, ◌%◌}
use mathlib.Core.Bool.{Bool, true, false}
use mathlib.Core.List.{List, [], ◌∷◌}
use mathlib.Core.Path.{◌≡◌, refl, sym, ap, ◌∙◌}
use native.Mathlib.Omega.{arith}
use lib.ListN.{length, take, drop, length-drop}
use lib.Seq.{take_all}
use borrow.Author.Tests.{eq-eqb, ne_eqb}
use Rattle.rules.specs.declared.Target.{Target}
use Rattle.rules.specs.declared.Target.TheVariants.{Unit, Lacking, Other}
use Rattle.rules.specs.Bytes.{same, part}
use Rattle.rules.specs.Tlv.{head_at}
use Rattle.rules.specs.Tlvs.{Tlvs, tlvs, plain}
use Rattle.rules.specs.Page.{content_at, row_of, page_head, page_row, part_in, page_part, bytes_of, identification, anchor_in, holds}
use Rattle.rules.specs.Reference.{mark, unit_from, own_unit, is_own, target_by, target}
use Rattle.tlv.proofs.Rows.{row_next, row_ends}
use Rattle.rules.specs.declared.Span.{Span}
use Rattle.page.specs.Span.{span_of}
use Rattle.page.proofs.Spans.{span_row}
use Rattle.page.proofs.Parts.{part_held}
use Rattle.std.specs.Prelude.{Option, Some, None}
use Rattle.rules.specs.declared.Tlv.{Tlv}

module _ (s : List ℕ) (name : List ℕ) (tag from end : ℕ) (p : Option Span) (is : p ≡ part_in tag (tlvs 0 s from end)) where
  pub holds_none : p ≡ None → false ≡ holds s name (part_in tag (tlvs 0 s from end))
  unfolding holds
  holds_none x = simp (sym is ∙ x)

  pub holds_held : (w : Span) → p ≡ Some w → (v : Bool) → v ≡ same (take (w.end - w.from) (drop w.from s)) name → v ≡ holds s name (part_in tag (tlvs 0 s from end))
  unfolding holds part
  holds_held w x v y = simp (sym is ∙ x) y

  module _ (v : Span) (x : p ≡ Some v) where
    pub holds_ordered : v.from ≤ v.end
    holds_ordered = (part_held s tag from end (sym is ∙ x)).1

    pub holds_inside : (n : ℕ) → end ≤ n → v.end ≤ n
    holds_inside n h = let f = part_held s tag from end (sym is ∙ x) in omega arith

pub ruleset holds_laws = (holds_none, holds_held, holds_ordered, holds_inside)

module _ (s name : List ℕ) (at end k : ℕ) (w : Target) (inv : unit_from s name k (tlvs 0 s at end) ≡ w) where
  module _ (r : Option Tlv) (is : r ≡ head_at s at end) where
    pub from_ends : r ≡ None → Lacking ≡ w
    unfolding unit_from
    from_ends x = sym (row_ends s at end (unit_from s name k) (sym is ∙ x) refl refl) ∙ inv

    module _ (u : Tlv) (x : r ≡ Some u) where
      pub from_other : (u.tag % 128 ≡ 0x0A → ⊥) → unit_from s name k (tlvs 0 s u.stop end) ≡ w
      unfolding unit_from plain
      from_other y = sym (simp (row_next s at end (sym is ∙ x), ne_eqb _ _ y)) ∙ inv

      module _ (y : u.tag % 128 ≡ 0x0A) (p : ℕ) (q : p ≡ content_at s u.tag u.start u.stop) (v : Bool) (e : v ≡ holds s name (part_in 0x0B (tlvs 0 s p u.stop))) where
        named : holds s name (anchor_in s (some_tlv u.tag u.start u.stop)) ≡ v
        unfolding anchor_in row_of
        named = sym (rw q at e)

        pub from_this : v ≡ true → Unit k ≡ w
        unfolding unit_from plain
        from_this z = sym (simp (row_next s at end (sym is ∙ x), eq-eqb _ _ y, named ∙ z)) ∙ inv

        pub from_next : v ≡ false → unit_from s name (k + 1) (tlvs 0 s u.stop end) ≡ w
        unfolding unit_from plain
        from_next z = sym (simp (row_next s at end (sym is ∙ x), eq-eqb _ _ y, named ∙ z)) ∙ inv

pub ruleset from_laws = (from_ends, from_other, from_this, from_next)

holds_same : (s name : List ℕ) → (length name ≡ 0 → ⊥) → (p : Option Span) → holds s name p ≡ same (bytes_of s p) name
unfolding holds bytes_of same
holds_same s name h (Some p) = refl
holds_same s [] h None = absurd (h refl)
holds_same s (x ∷ xs) h None = refl

module _ (s name : List ℕ) where
  pub own_first : length name ≡ 0 → Unit 0 ≡ own_unit s name
  unfolding own_unit
  own_first h = simp (eq-eqb _ _ h)

  pub own_page : length name ≡ 0 → true ≡ is_own s name
  unfolding is_own
  own_page h = simp (eq-eqb _ _ h)

  module _ (h : length name ≡ 0 → ⊥) (r : Span) (is : r ≡ span_of s (page_head s)) where
    pub own_found : (t : Target) → t ≡ unit_from s name 0 (tlvs 0 s r.from r.end) → t ≡ own_unit s name
    unfolding own_unit page_row
    own_found t e = simp (ne_eqb _ _ h) ((rw is at e) ∙ ap (unit_from s name 0) (span_row s (page_head s)))

    pub own_named : (v : Bool) → v ≡ holds s name (part_in 0x02 (tlvs 0 s r.from r.end)) → v ≡ is_own s name
    unfolding is_own identification page_part page_row
    own_named v e =
        simp (ne_eqb _ _ h)
        ((rw is at e) ∙ ap (λ (row : Tlvs). holds s name (part_in 0x02 row)) (span_row s (page_head s)) ∙ holds_same s name h (part_in 0x02 (row_of s (page_head s))))

pub ruleset own_laws = (own_first, own_page, own_found, own_named)

module _ (s r : List ℕ) (m : Option ℕ) (is : m ≡ mark r) where
  pub target_none : m ≡ None → Other ≡ target s r
  unfolding target target_by
  target_none x = simp (sym is ∙ x)

  module _ (n : ℕ) (x : m ≡ Some n) (v : Bool) (e : v ≡ is_own s (take n r)) where
    pub target_own : v ≡ true → (t : Target) → t ≡ own_unit s (take (length r - (n + 1)) (drop (n + 1) r)) → t ≡ target s r
    unfolding target target_by
    target_own y t z =
        let whole = take_all (length r - (n + 1)) (drop (n + 1) r) (rw length-drop (omega arith)) in
        simp (sym is ∙ x, sym e ∙ y) (z ∙ ap (own_unit s) whole)

    pub target_other : v ≡ false → Other ≡ target s r
    unfolding target target_by
    target_other y = simp (sym is ∙ x, sym e ∙ y)

pub ruleset target_laws = (target_none, target_own, target_other)
