-- The ways to the action of one modifier, in the shape of what the proofs need.
-- Assumes nothing.
use Prim.Native.Nat.{ℕ, ◌+◌, ◌-◌, ◌≤◌, ◌<◌, ◌%◌}
use mathlib.Core.List.{List}
use mathlib.Core.Path.{◌≡◌, refl, sym, ◌∙◌}
use native.Mathlib.Omega.{arith}
use lib.ListN.{get_or}
use borrow.Author.Tests.{lt-ltb, le-ltb, le-leb, lt-leb, eq-eqb, ne_eqb}
use Rattle.rules.specs.declared.Action.{Action}
use Rattle.rules.specs.declared.Action.TheVariants.{Pass, Go}
use Rattle.rules.specs.Tlv.{head_at}
use Rattle.rules.specs.Tlvs.{tlvs, plain}
use Rattle.rules.specs.Page.{content_at}
use Rattle.rules.specs.Handler.{go_to, branch_by, action_by, action_at, action_in, in_range, modifier_at}
use Rattle.leaf.proofs.Cases.{both}
use Rattle.tlv.proofs.Bounds.{content_in}
use Rattle.tlv.proofs.Rows.{row_done, row_next, row_ends}
use Rattle.page.proofs.Spans.{within_tlv}
use Rattle.unit.specs.Nth.{nth_in}
use Rattle.unit.proofs.Nths.{nth_within}
use Rattle.handler.specs.Search.{action_of}
use Rattle.std.specs.Prelude.{Option, None, Some}
use Rattle.rules.specs.declared.Tlv.{Tlv}

module _ (h : Option Tlv) where
  pub go_none : h ≡ None → Pass ≡ go_to h
  unfolding go_to
  go_none x = simp x

  module _ (v : Tlv) (x : h ≡ Some v) where
    pub go_this : v.tag ≡ 0x0C → Go v.start v.stop ≡ go_to h
    unfolding go_to
    go_this y = simp (x, eq-eqb _ _ y)

    pub go_other : (v.tag ≡ 0x0C → ⊥) → Pass ≡ go_to h
    unfolding go_to
    go_other y = simp (x, ne_eqb _ _ y)

pub ruleset go_laws = (go_none, go_this, go_other)

module _ (s : List ℕ) (h r : Option Tlv) (is : r ≡ h) where
  pub branch_none : r ≡ None → Pass ≡ branch_by s h
  unfolding branch_by
  branch_none x = simp (sym is ∙ x)

  module _ (v : Tlv) (x : r ≡ Some v) (a : Action) where
    pub branch_inner : v.tag ≡ 0x12 → (q : Option Tlv) → q ≡ head_at s v.start v.stop → a ≡ go_to q → a ≡ branch_by s h
    unfolding branch_by
    branch_inner y q e z = simp (sym is ∙ x, eq-eqb _ _ y) (rw e at z)

    pub branch_this : (v.tag ≡ 0x12 → ⊥) → a ≡ go_to (Some v) → a ≡ branch_by s h
    unfolding branch_by
    branch_this y z = simp (sym is ∙ x, ne_eqb _ _ y) z

pub ruleset branch_laws = (branch_none, branch_inner, branch_this)

-- `w` is what the whole row comes to, and `inv` that the rest comes to the same
module _ (s : List ℕ) (at end : ℕ) (w : Action) (inv : action_in s (tlvs 0 s at end) ≡ w) where
  module _ (r : Option Tlv) (is : r ≡ head_at s at end) where
    pub action_ends : r ≡ None → Pass ≡ w
    unfolding action_in
    action_ends x = sym (row_ends s at end (action_in s) (sym is ∙ x) refl refl) ∙ inv

    module _ (v : Tlv) (x : r ≡ Some v) where
      pub action_other : (v.tag % 128 ≡ 0x09 → ⊥) → action_in s (tlvs 0 s v.stop end) ≡ w
      unfolding action_in plain
      action_other y = sym (simp (row_next s at end (sym is ∙ x), ne_eqb _ _ y)) ∙ inv

      module _ (y : v.tag % 128 ≡ 0x09) (p : ℕ) (q : p ≡ content_at s v.tag v.start v.stop) where
        here : action_at s p v.stop ≡ w
        unfolding action_in plain
        here = rw q (sym (simp (row_next s at end (sym is ∙ x), eq-eqb _ _ y)) ∙ inv)

        pub action_empty : v.stop ≤ p → Pass ≡ w
        unfolding action_at
        action_empty z = sym (simp (le-ltb _ _ z)) ∙ here

        pub action_this : p < v.stop → (a : Action) → a ≡ action_by s (get_or s p 0) (p + 1) v.stop → a ≡ w
        unfolding action_at
        action_this z a e = e ∙ sym (simp (lt-ltb _ _ z)) ∙ here

pub ruleset action_laws = (action_ends, action_other, action_empty, action_this)

module _ (s : List ℕ) (g at stop : ℕ) where
  pub range_short : stop - at < 2 → Pass ≡ modifier_at s g at stop
  unfolding modifier_at action_in
  range_short h = both (in_range (get_or s at 0) (get_or s (at + 1) 0) g) (λ t. simp (t, row_done s (at + 2) stop (omega arith))) (λ t. simp t)

  pub range_below : g < get_or s at 0 → Pass ≡ modifier_at s g at stop
  unfolding modifier_at in_range
  range_below h = simp (lt-leb _ _ h)

  pub range_above : get_or s at 0 ≤ g → get_or s (at + 1) 0 < g → Pass ≡ modifier_at s g at stop
  unfolding modifier_at in_range
  range_above h k = simp (le-leb _ _ h, lt-leb _ _ k)

  pub range_met : get_or s at 0 ≤ g → g ≤ get_or s (at + 1) 0 → (a : Action) → a ≡ action_in s (tlvs 0 s (at + 2) stop) → a ≡ modifier_at s g at stop
  unfolding modifier_at in_range
  range_met h k a e = simp (le-leb _ _ h, le-leb _ _ k) e

pub ruleset range_laws = (range_short, range_below, range_above, range_met)

module _ (s : List ℕ) (g : ℕ) (h r : Option Tlv) (is : r ≡ h) where
  pub modifier_none : r ≡ None → Pass ≡ action_of s g h
  unfolding action_of
  modifier_none x = simp (sym is ∙ x)

  pub modifier_held : (v : Tlv) → r ≡ Some v → (p : ℕ) → p ≡ content_at s v.tag v.start v.stop → (a : Action) → a ≡ modifier_at s g p v.stop → a ≡ action_of s g h
  unfolding action_of
  modifier_held v x p q a e = simp (sym is ∙ x) (rw q at e)

module _ (s : List ℕ) (tag n from end : ℕ) (r : Option Tlv) (is : r ≡ nth_in tag n (tlvs 0 s from end)) (v : Tlv) (x : r ≡ Some v) where
  found : (v.start ≤ v.stop) × (v.stop ≤ end)
  found = within_tlv (nth_in tag n (tlvs 0 s from end)) r (nth_within s tag n from end) is x

  pub modifier_inside : (m : ℕ) → end ≤ m → v.stop ≤ m
  modifier_inside m h = let b = found in omega arith

  pub modifier_content : (p : ℕ) → p ≡ content_at s v.tag v.start v.stop → p ≤ v.stop
  modifier_content p q = let b = found in let c = content_in s v.tag v.start v.stop b.0 in omega arith

pub ruleset modifier_laws = (modifier_none, modifier_held, modifier_inside, modifier_content)
