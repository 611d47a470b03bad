-- The ways through `body_of`, in the shape of its needs, and where the TLVs inside a value begin.
-- Assumes nothing.
use Prim.Native.Nat.{ℕ, ◌+◌, ◌-◌, ◌≤◌, ◌/◌, ◌%◌}
use mathlib.Core.List.{List}
use mathlib.Core.Path.{◌≡◌, refl, sym, subst, ◌∙◌}
use native.Mathlib.Omega.{arith}
use lib.Dec.{eqb, ltb}
use borrow.Author.Tests.{eq-eqb, ne_eqb}
use Rattle.rules.specs.declared.Body.{Body}
use Rattle.rules.specs.declared.Body.TheVariants.{Inner, Leaf, Short}
use Rattle.rules.specs.Grammar.{command_kind}
use Rattle.rules.specs.Pieces.{pieces, filled}
use Rattle.rules.specs.Shape.{raw, numbered, length_value, substitution, indicator_shape, shape_of, fixed_of, follows_of, attributes_end, attribute, added, contents, value_at, after_attributes, body_of}
use Rattle.leaf.proofs.Cases.{both, tests}
use Rattle.tlv.proofs.Bounds.{attributes_after}
use Rattle.std.specs.Prelude.{Option, Some, None}

pub b_upto : (s : List ℕ) (tag start stop : ℕ) → start ≤ stop → (e : Option ℕ) → e ≡ attributes_end s tag start stop → (p : ℕ) → e ≡ Some p → p ≤ stop
b_upto s tag start stop h e is p x = (attributes_after s tag start stop h (sym is ∙ x)).1

pub added_small : (follows a : ℕ) {x : ℕ} → x ≡ added follows a → x ≤ 2
unfolding added
added_small follows a e = rw e (both (eqb follows 3) (λ t. simp t (omega arith)) (λ t. simp t (omega arith)))

module _ (s : List ℕ) (within tag start stop : ℕ) where
  module _ (w : within ≡ command_kind) where
    pub b_indicator : (r : Body) → tag ≡ 0 → r ≡ value_at s indicator_shape 1 start stop → r ≡ body_of s within tag start stop
    unfolding body_of
    b_indicator r t e = simp (eq-eqb within command_kind w, eq-eqb tag 0 t) e

    pub b_simple : (tag ≡ 0 → ⊥) → Leaf ≡ body_of s within tag start stop
    unfolding body_of
    b_simple t = simp (eq-eqb within command_kind w, ne_eqb tag 0 t)

  module _ (w : within ≡ command_kind → ⊥) (shape : ℕ) (f : shape ≡ shape_of tag) where
    pub b_unknown : shape ≡ 0 → Leaf ≡ body_of s within tag start stop
    unfolding body_of
    b_unknown z = simp (ne_eqb within command_kind w, eq-eqb (shape_of tag) 0 (sym f ∙ z))

    module _ (z : shape ≡ 0 → ⊥) (e : Option ℕ) (is : e ≡ attributes_end s tag start stop) where
      pub b_cut : e ≡ None → Short ≡ body_of s within tag start stop
      unfolding body_of after_attributes
      b_cut x = simp (ne_eqb within command_kind w, ne_eqb (shape_of tag) 0 (λ y. z (f ∙ y)), sym is ∙ x)

      pub b_value : (p : ℕ) → e ≡ Some p → (a : ℕ) → a ≡ attribute s tag start stop → (x : ℕ) → x ≡ added (shape / 8 % 8) a
          → (r : Body) → r ≡ value_at s shape (shape % 8 + x) p stop → r ≡ body_of s within tag start stop
      unfolding body_of after_attributes fixed_of follows_of
      b_value p v a g x h r q = q ∙ simp (ne_eqb within command_kind w, ne_eqb (shape_of tag) 0 (λ y. z (f ∙ y)), sym is ∙ v, h, g, f)

pub ruleset body_laws = (added_small, b_upto, b_indicator, b_simple, b_unknown, b_cut, b_value)

-- the TLVs inside begin before the value's end
abbrev BodyIn : ℕ → Body → Type 0
BodyIn stop (Inner kind p) = p ≤ stop
BodyIn stop Leaf = Unit {0}
BodyIn stop Short = Unit {0}

contents_in : (s : List ℕ) (kind follows at from stop : ℕ) → at ≤ stop → from ≤ stop → BodyIn stop (contents s kind follows at from stop)
unfolding contents
contents_in s kind follows at from stop g h =
    both (eqb follows raw) (λ t. simp t tt) (λ t.
    both (eqb follows numbered) (λ t2. simp (t, t2) g) (λ t2.
    both (ltb follows length_value) (λ t3. simp (t, t2, t3) h) (λ t3.
    both (filled (pieces (eqb follows substitution) s from stop)) (λ t4. simp (t, t2, t3, t4) tt) (λ t4. simp (t, t2, t3, t4) tt))))

value_in : (s : List ℕ) (shape fixed at stop : ℕ) → at ≤ stop → BodyIn stop (value_at s shape fixed at stop)
unfolding value_at
value_in s shape fixed at stop h =
    both (ltb (stop - at) fixed) (λ t. simp t tt) (λ t. simp t (contents_in s _ _ at (at + fixed) stop h (omega tests)))

after_in : (s : List ℕ) (shape a stop : ℕ) (e : Option ℕ) → ((p : ℕ) → e ≡ Some p → p ≤ stop) → BodyIn stop (after_attributes s shape a stop e)
unfolding after_attributes
after_in s shape a stop (Some p) h = value_in s shape _ p stop (h p refl)
after_in s shape a stop None h = tt

body_in : (s : List ℕ) (within tag start stop : ℕ) → start ≤ stop → BodyIn stop (body_of s within tag start stop)
unfolding body_of
body_in s within tag start stop h =
    both (eqb within command_kind) (λ t. both (eqb tag 0) (λ t2. simp (t, t2) (value_in s indicator_shape 1 start stop h)) (λ t2. simp (t, t2) tt))
    (λ t. both (eqb (shape_of tag) 0) (λ t2. simp (t, t2) tt)
    (λ t2. simp (t, t2) (after_in s (shape_of tag) _ stop (attributes_end s tag start stop) (λ p e. b_upto s tag start stop h _ refl p e))))

pub body_inner : (s : List ℕ) (within tag start stop : ℕ) {kind p : ℕ} → start ≤ stop → body_of s within tag start stop ≡ Inner kind p → p ≤ stop
body_inner s within tag start stop h e = subst (BodyIn stop) e (body_in s within tag start stop h)
