-- The ways through `met` and `lacks`, in the shape of their needs.
-- Assumes nothing.
use Prim.Native.Nat.{ℕ, ◌+◌, ◌-◌, ◌≤◌, ◌<◌}
use mathlib.Core.Bool.{Bool, true, false}
use mathlib.Core.List.{List}
use mathlib.Core.Path.{◌≡◌, sym, ◌∙◌}
use native.Mathlib.Omega.{arith}
use lib.Dec.{eqb}
use borrow.Author.Tests.{eq-eqb, ne_eqb}
use Rattle.rules.specs.Tlv.{head_at}
use Rattle.rules.specs.Tlvs.{tlvs}
use Rattle.rules.specs.Grammar.{cell_of, need_of, gap_of, met_in, met, lacks}
use Rattle.tlv.proofs.Bounds.{head_tlv}
use Rattle.tlv.proofs.Rows.{tlvs_done, tlvs_tlv, tlvs_past}
use Rattle.std.specs.Prelude.{Option, None, Some}
use Rattle.rules.specs.declared.Tlv.{Tlv}

module _ (s : List ℕ) (kind need from end : ℕ) where
  pub m_nothing : need ≡ 0 → true ≡ met kind need end (tlvs (gap_of kind) s from end)
  unfolding met
  m_nothing h = simp (eq-eqb need 0 h)

  pub m_start : (gap : ℕ) → gap ≡ gap_of kind → (need ≡ 0 → ⊥) → met_in kind need end (tlvs gap s from end) ≡ met kind need end (tlvs (gap_of kind) s from end)
  unfolding met
  m_start gap g h = simp (g, ne_eqb need 0 h)

-- `w` is what the whole row comes to, and `inv` that the rest of it comes to the same
module _ (s : List ℕ) (kind need end gap at : ℕ) (w : Bool) (inv : met_in kind need end (tlvs gap s at end) ≡ w) where
  pub m_fill : end - at ≤ gap → need ≡ 2 → eqb at end ≡ w
  unfolding met_in
  m_fill h e = sym (simp (tlvs_done gap s at end h, eq-eqb need 2 e)) ∙ inv

  pub m_done : end - at ≤ gap → (need ≡ 2 → ⊥) → false ≡ w
  unfolding met_in
  m_done h e = sym (simp (tlvs_done gap s at end h, ne_eqb need 2 e)) ∙ inv

  module _ (more : gap < end - at) (h : Option Tlv) (is : h ≡ head_at s (at + gap) end) where
    pub m_past : h ≡ None → true ≡ w
    unfolding met_in
    m_past e = sym (simp (tlvs_past gap s at end more (sym is ∙ e))) ∙ inv

    module _ (v : Tlv) (e : h ≡ Some v) where
      pub m_less : end - v.stop < end - at
      m_less = let b = head_tlv s (at + gap) end (sym is ∙ e) in omega arith

      pub m_within : v.stop ≤ end
      m_within = let b = head_tlv s (at + gap) end (sym is ∙ e) in omega arith

      pub m_one : need ≡ 1 → true ≡ w
      unfolding met_in
      m_one o = sym (simp (tlvs_tlv gap s at end more (sym is ∙ e), eq-eqb need 1 o)) ∙ inv

      module _ (o : need ≡ 1 → ⊥) (cell : ℕ) (c : cell ≡ cell_of kind v.tag) where
        pub m_hit : cell ≡ need → true ≡ w
        unfolding met_in
        m_hit x = sym (simp (tlvs_tlv gap s at end more (sym is ∙ e), ne_eqb need 1 o, eq-eqb (cell_of kind v.tag) need (sym c ∙ x))) ∙ inv

        pub m_miss : (cell ≡ need → ⊥) → met_in kind need end (tlvs gap s v.stop end) ≡ w
        unfolding met_in
        m_miss x = sym (simp (tlvs_tlv gap s at end more (sym is ∙ e), ne_eqb need 1 o, ne_eqb (cell_of kind v.tag) need (λ y. x (c ∙ y)))) ∙ inv

pub ruleset met_laws = (m_nothing, m_start, m_fill, m_done, m_past, m_less, m_within, m_one, m_hit, m_miss)

module _ (s : List ℕ) (kind from end n : ℕ) (e : n ≡ need_of kind 0) (b : Bool) (f : b ≡ met kind n end (tlvs (gap_of kind) s from end)) where
  pub l_first : b ≡ false → true ≡ lacks kind end (tlvs (gap_of kind) s from end)
  unfolding lacks
  l_first x = simp (sym e, sym f, x)

  module _ (x : b ≡ true) (m : ℕ) (g : m ≡ need_of kind 1) (d : Bool) (h : d ≡ met kind m end (tlvs (gap_of kind) s from end)) where
    pub l_second : d ≡ false → true ≡ lacks kind end (tlvs (gap_of kind) s from end)
    unfolding lacks
    l_second y = simp (sym e, sym f, x, sym g, sym h, y)

    pub l_none : d ≡ true → false ≡ lacks kind end (tlvs (gap_of kind) s from end)
    unfolding lacks
    l_none y = simp (sym e, sym f, x, sym g, sym h, y)

pub ruleset lacks_laws = (l_first, l_second, l_none)
