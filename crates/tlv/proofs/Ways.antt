-- The ways through `head_at`, `pair_at`, `pairs_fill`, `attributes_in` and `count_tag`, in the shape of what their proofs need.
-- Assumes nothing.
use Prim.Native.Nat.{ℕ, suc, ◌+◌, ◌-◌, ◌≤◌, ◌<◌, ◌%◌}
use mathlib.Core.Bool.{Bool, true, false}
use mathlib.Core.List.{List}
use mathlib.Core.Path.{◌≡◌, refl, sym, ◌∙◌}
use native.Mathlib.Omega.{arith}
use lib.ListN.{get_or}
use borrow.Author.Tests.{lt-ltb, le-ltb, le-leb, lt-leb, eq-eqb, ne_eqb}
use Rattle.rules.specs.declared.Pair.{Pair}
use Rattle.rules.specs.declared.Pair.TheVariants.{Text, Number, Broken}
use Rattle.rules.specs.Tlv.{length_at, head_at, head_of}
use Rattle.rules.specs.Tlvs.{tlvs, plain, count_in}
use Rattle.rules.specs.Pieces.{indicates, text_of, pair_at, pieces, filled}
use Rattle.rules.specs.Shape.{attributes_in}
use Rattle.tlv.proofs.Bounds.{length_got}
use Rattle.tlv.proofs.Rows.{row_next, row_ends}
use Rattle.tlv.proofs.PairRows.{pieces_full, pieces_text, pieces_variable, pieces_cut}
use Rattle.std.specs.Prelude.{Option, Some, None}
use Rattle.rules.specs.declared.Tlv.{Tlv}
use Rattle.rules.specs.Built.{some_tlv}

module _ (s : List ℕ) (at end : ℕ) where
  pub head_none : end ≤ at → None ≡ head_at s at end
  unfolding head_at
  head_none h = simp (le-leb end at h)

  module _ (h : at < end) (l : Option (ℕ × ℕ)) (f : l ≡ length_at s (at + 1) end) where
    pub head_bad : l ≡ None → None ≡ head_at s at end
    unfolding head_at head_of
    head_bad y = simp (lt-leb end at h, sym f ∙ y)

    module _ (n start : ℕ) (y : l ≡ Some (n, start)) where
      pub head_inside : start ≤ end
      head_inside = let b = length_got s (at + 1) end (sym f ∙ y) in omega arith

      pub head_over : end - start < n → None ≡ head_at s at end
      unfolding head_at head_of
      head_over z = simp (lt-leb end at h, sym f ∙ y, lt-ltb _ _ z)

      pub head_fits : n ≤ end - start → some_tlv (get_or s at 0) start (start + n) ≡ head_at s at end
      unfolding head_at head_of
      head_fits z = simp (lt-leb end at h, sym f ∙ y, le-ltb _ _ z)

pub ruleset head_laws = (head_none, head_bad, head_inside, head_over, head_fits)

module _ (substituted : Bool) (s : List ℕ) (at end : ℕ) where
  pub pair_none : end ≤ at → Broken ≡ pair_at substituted s at end
  unfolding pair_at
  pair_none h = simp (le-leb end at h)

  module _ (h : at < end) (v : Bool) (e : v ≡ indicates substituted (get_or s at 0)) where
    module _ (x : v ≡ true) where
      pub pair_short : end - at < 2 → Broken ≡ pair_at substituted s at end
      unfolding pair_at
      pair_short y = simp (lt-leb end at h, sym e ∙ x, lt-ltb _ _ y)

      pub pair_variable : 2 ≤ end - at → Number (get_or s (at + 1) 0) (at + 2) ≡ pair_at substituted s at end
      unfolding pair_at
      pair_variable y = simp (lt-leb end at h, sym e ∙ x, le-ltb _ _ y)

    module _ (x : v ≡ false) (l : Option (ℕ × ℕ)) (f : l ≡ length_at s at end) where
      pub pair_bad : l ≡ None → Broken ≡ pair_at substituted s at end
      unfolding pair_at text_of
      pair_bad y = simp (lt-leb end at h, sym e ∙ x, sym f ∙ y)

      module _ (n from : ℕ) (y : l ≡ Some (n, from)) where
        pub pair_inside : from ≤ end
        pair_inside = let b = length_got s at end (sym f ∙ y) in omega arith

        pub pair_over : end - from < n → Broken ≡ pair_at substituted s at end
        unfolding pair_at text_of
        pair_over z = simp (lt-leb end at h, sym e ∙ x, sym f ∙ y, lt-ltb _ _ z)

        pub pair_fits : n ≤ end - from → Text from (from + n) ≡ pair_at substituted s at end
        unfolding pair_at text_of
        pair_fits z = simp (lt-leb end at h, sym e ∙ x, sym f ∙ y, le-ltb _ _ z)

pub ruleset pair_laws = (pair_none, pair_short, pair_variable, pair_bad, pair_inside, pair_over, pair_fits)

-- `w`, here and below, is what the whole comes to, and `inv` that the rest comes to the same
module _ (substituted : Bool) (s : List ℕ) (at end : ℕ) (w : Bool) (inv : filled (pieces substituted s at end) ≡ w) where
  pub fill_done : end ≤ at → true ≡ w
  unfolding filled
  fill_done h = sym (simp (pieces_full substituted s at end h)) ∙ inv

  module _ (h : at < end) (p : Pair) (is : p ≡ pair_at substituted s at end) where
    pub fill_cut : p ≡ Broken → false ≡ w
    unfolding filled
    fill_cut x = sym (simp (pieces_cut substituted s at end h (sym is ∙ x))) ∙ inv

    module _ (from to : ℕ) (x : p ≡ Text from to) where
      pub fill_text : filled (pieces substituted s to end) ≡ w
      unfolding filled
      fill_text = sym (simp (pieces_text substituted s at end h (sym is ∙ x))) ∙ inv

    module _ (n next : ℕ) (x : p ≡ Number n next) where
      pub fill_number : filled (pieces substituted s next end) ≡ w
      unfolding filled
      fill_number = sym (simp (pieces_variable substituted s at end h (sym is ∙ x))) ∙ inv

pub ruleset fill_laws = (fill_done, fill_cut, fill_text, fill_number)

module _ (s : List ℕ) (at end : ℕ) (w : Option ℕ) (inv : attributes_in (end - at) s at ≡ w) where
  pub attributes_cut : end ≤ at → None ≡ w
  unfolding attributes_in
  attributes_cut h = sym (let e : end - at ≡ 0 = omega arith in rw e) ∙ inv

  module _ (h : at < end) where
    one_more_lem : end - at ≡ suc (end - (at + 1))
    one_more_lem = omega arith

    pub attributes_last : get_or s at 0 < 128 → Some (at + 1) ≡ w
    unfolding attributes_in
    attributes_last t = sym (simp (one_more_lem, lt-ltb _ _ t)) ∙ inv

    pub attributes_more : 128 ≤ get_or s at 0 → attributes_in (end - (at + 1)) s (at + 1) ≡ w
    unfolding attributes_in
    attributes_more t = sym (simp (one_more_lem, le-ltb _ _ t)) ∙ inv

pub ruleset attribute_laws = (attributes_cut, attributes_last, attributes_more)

module _ (tag : ℕ) (s : List ℕ) (at end n w : ℕ) (inv : count_in tag n (tlvs 0 s at end) ≡ w) where
  module _ (r : Option Tlv) (is : r ≡ head_at s at end) where
    pub count_ends : r ≡ None → n ≡ w
    unfolding count_in
    count_ends x = sym (row_ends s at end (count_in tag n) (sym is ∙ x) refl refl) ∙ inv

    module _ (v : Tlv) (x : r ≡ Some v) where
      pub count_this : v.tag % 128 ≡ tag → count_in tag (n + 1) (tlvs 0 s v.stop end) ≡ w
      unfolding count_in plain
      count_this y = sym (simp (row_next s at end (sym is ∙ x), eq-eqb _ _ y)) ∙ inv

      pub count_other : (v.tag % 128 ≡ tag → ⊥) → count_in tag n (tlvs 0 s v.stop end) ≡ w
      unfolding count_in plain
      count_other y = sym (simp (row_next s at end (sym is ∙ x), ne_eqb _ _ y)) ∙ inv

pub ruleset count_laws = (count_ends, count_this, count_other)
