-- The ways through the functions of one form, in the shape of their needs.
-- Assumes nothing.
use Prim.Native.Nat.{ℕ, ◌+◌, ◌-◌, ◌≤◌, ◌<◌, ◌%◌}
use mathlib.Core.Bool.{Bool, true, false}
use mathlib.Core.List.{List, [], ◌∷◌}
use mathlib.Core.Path.{◌≡◌, sym, ◌∙◌}
use native.Mathlib.Omega.{arith}
use lib.Dec.{eqb, ltb}
use borrow.Author.Tests.{lt-ltb, le-ltb, eq-eqb, ne_eqb}
use Rattle.rules.specs.declared.Body.{Body}
use Rattle.rules.specs.declared.Body.TheVariants.{Inner, Leaf, Short}
use Rattle.rules.specs.Bytes.{among}
use Rattle.rules.specs.Tlv.{head_at}
use Rattle.rules.specs.Tlvs.{tlvs, plain, count}
use Rattle.rules.specs.Grammar.{beyond}
use Rattle.rules.specs.Shape.{attribute, body_of}
use Rattle.rules.specs.Forms.{bad_reference, is_marked, long_reference, odd_head, several, odd_modifier, beyond_at}
use Rattle.std.specs.Prelude.{Option, Some, None}
use Rattle.rules.specs.declared.Tlv.{Tlv}

module _ (size : ℕ) (m : Option ℕ) where
  pub bad_cut : m ≡ None → true ≡ bad_reference size m
  unfolding bad_reference
  bad_cut e = simp e

  pub bad_after : (n : ℕ) → m ≡ Some n → eqb size 1 ≡ bad_reference size m
  unfolding bad_reference
  bad_after n e = simp e

  pub long_cut : m ≡ None → false ≡ long_reference size m
  unfolding long_reference
  long_cut e = simp e

  module _ (n : ℕ) (e : m ≡ Some n) where
    pub long_page : 32 < n → ltb 32 n ≡ long_reference size m
    unfolding long_reference
    long_page h = simp (e, lt-ltb 32 n h)

    pub long_none : n ≤ 32 → size ≤ n → ltb n size ≡ long_reference size m
    unfolding long_reference
    long_none h g = simp (e, le-ltb n size g, le-ltb 32 n h, le-ltb 32 (size - (n + 1)) (omega arith))

    pub long_anchor : n ≤ 32 → ltb 32 (size - (n + 1)) ≡ long_reference size m
    unfolding long_reference
    long_anchor h = simp (e, le-ltb 32 n h)

pub ruleset reference_laws = (bad_cut, bad_after, long_cut, long_page, long_none, long_anchor)

module _ (m : Option ℕ) where
  pub marked_cut : m ≡ None → false ≡ is_marked m
  unfolding is_marked
  marked_cut e = simp e

  pub marked_after : (n : ℕ) → m ≡ Some n → true ≡ is_marked m
  unfolding is_marked
  marked_after n e = simp e

pub ruleset marked_laws = (marked_cut, marked_after)

module _ (stop : ℕ) (h : Option Tlv) where
  pub head_past : h ≡ None → false ≡ odd_head stop h
  unfolding odd_head
  head_past e = simp e

  module _ (v : Tlv) (e : h ≡ Some v) where
    pub head_reference : v.tag ≡ 0x0C → ltb v.stop stop ≡ odd_head stop h
    unfolding odd_head
    head_reference x = simp (e, eq-eqb v.tag 0x0C x)

    pub head_other : (v.tag ≡ 0x0C → ⊥) → (b : Bool) → b ≡ among (0x0D ∷ 0x13 ∷ 0x93 ∷ []) v.tag → b ≡ odd_head stop h
    unfolding odd_head
    head_other x b a = a ∙ simp (e, ne_eqb v.tag 0x0C x)

pub ruleset head_laws = (head_past, head_reference, head_other)

module _ (s : List ℕ) (stop : ℕ) (b : Body) where
  pub several_inner : (kind p : ℕ) → b ≡ Inner kind p → (n : ℕ) → n ≡ count 0x09 (tlvs 0 s p stop) → ltb 1 n ≡ several s stop b
  unfolding several
  several_inner kind p e n x = simp (e, x)

  pub several_leaf : b ≡ Leaf → false ≡ several s stop b
  unfolding several
  several_leaf e = simp e

  pub several_short : b ≡ Short → false ≡ several s stop b
  unfolding several
  several_short e = simp e

pub ruleset several_laws = (several_inner, several_leaf, several_short)

module _ (s : List ℕ) (within tag start stop : ℕ) where
  module _ (a : ℕ) (e : a ≡ attribute s tag start stop) where
    pub modifier_type : 0 < a % 4 → true ≡ odd_modifier s within tag start stop
    unfolding odd_modifier
    modifier_type h = simp (sym e, lt-ltb 0 (a % 4) h)

    pub modifier_several : a % 4 ≤ 0 → (b : Body) → b ≡ body_of s within tag start stop → (r : Bool) → r ≡ several s stop b → r ≡ odd_modifier s within tag start stop
    unfolding odd_modifier
    modifier_several h b f r g = g ∙ simp (f, sym e, le-ltb 0 (a % 4) h)

  module _ (b : Bool) (e : b ≡ beyond within tag) where
    pub beyond_tag : b ≡ true → true ≡ beyond_at s within tag start stop
    unfolding beyond_at
    beyond_tag x = simp (sym e ∙ x)

    module _ (x : b ≡ false) where
      pub beyond_reference : tag ≡ 0x12 → (h : Option Tlv) → h ≡ head_at s start stop → (r : Bool) → r ≡ odd_head stop h → r ≡ beyond_at s within tag start stop
      unfolding beyond_at
      beyond_reference t h f r g = g ∙ simp (f, sym e ∙ x, eq-eqb tag 0x12 t)

      module _ (t : tag ≡ 0x12 → ⊥) where
        pub beyond_modifier : tag % 128 ≡ 0x08 → (r : Bool) → r ≡ odd_modifier s within tag start stop → r ≡ beyond_at s within tag start stop
        unfolding beyond_at plain
        beyond_modifier y r g = g ∙ simp (sym e ∙ x, ne_eqb tag 0x12 t, eq-eqb (tag % 128) 0x08 y)

        pub beyond_none : (tag % 128 ≡ 0x08 → ⊥) → false ≡ beyond_at s within tag start stop
        unfolding beyond_at plain
        beyond_none y = simp (sym e ∙ x, ne_eqb tag 0x12 t, ne_eqb (tag % 128) 0x08 y)

pub ruleset modifier_laws = (modifier_type, modifier_several)

pub ruleset beyond_laws = (beyond_tag, beyond_reference, beyond_modifier, beyond_none)
