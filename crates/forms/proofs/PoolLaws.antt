-- The ways through `big_pool`, in the shape of its needs.
-- Assumes nothing.
use Prim.Native.Nat.{ℕ, ◌+◌, ◌-◌, ◌≤◌, ◌<◌}
use mathlib.Core.Bool.{Bool, true, false}
use mathlib.Core.List.{List}
use mathlib.Core.Path.{◌≡◌, sym, ◌∙◌}
use native.Mathlib.Omega.{arith}
use borrow.Author.Tests.{lt-ltb, le-ltb, le-leb, lt-leb}
use Rattle.rules.specs.declared.Pair.{Pair}
use Rattle.rules.specs.declared.Pair.TheVariants.{Text, Number, Broken}
use Rattle.rules.specs.Pieces.{pair_at, pieces}
use Rattle.rules.specs.Forms.{big_pool}
use Rattle.tlv.proofs.Bounds.{pair_text, pair_number}
use Rattle.tlv.proofs.PairRows.{pieces_full, pieces_text, pieces_variable, pieces_cut}

-- `w` is what the whole pool comes to, and `inv` that the rest of it comes to the same
module _ (s : List ℕ) (at end n : ℕ) (w : Bool) (inv : big_pool n (pieces false s at end) ≡ w) where
  pub p_done : end ≤ at → false ≡ w
  unfolding big_pool
  p_done h = sym (simp (pieces_full false s at end h)) ∙ inv

  module _ (h : at < end) (p : Pair) (is : p ≡ pair_at false s at end) where
    pub p_cut : p ≡ Broken → false ≡ w
    unfolding big_pool
    p_cut x = sym (simp (pieces_cut false s at end h (sym is ∙ x))) ∙ inv

    module _ (from to : ℕ) (x : p ≡ Text from to) where
      pub p_inside : from ≤ to
      p_inside = let b = pair_text false s at end (sym is ∙ x) in omega arith

      pub p_less : end - to < end - at
      p_less = let b = pair_text false s at end (sym is ∙ x) in omega arith

      pub p_many : 64 ≤ n → true ≡ w
      unfolding big_pool
      p_many y = sym (simp (pieces_text false s at end h (sym is ∙ x), le-leb _ _ y)) ∙ inv

      module _ (y : n < 64) where
        pub p_long : 255 < to - from → true ≡ w
        unfolding big_pool
        p_long z = sym (simp (pieces_text false s at end h (sym is ∙ x), lt-leb _ _ y, lt-ltb _ _ z)) ∙ inv

        pub p_text : to - from ≤ 255 → big_pool (n + 1) (pieces false s to end) ≡ w
        unfolding big_pool
        p_text z = sym (simp (pieces_text false s at end h (sym is ∙ x), lt-leb _ _ y, le-ltb _ _ z)) ∙ inv

    module _ (k next : ℕ) (x : p ≡ Number k next) where
      pub p_number_less : end - next < end - at
      p_number_less = let b = pair_number false s at end (sym is ∙ x) in omega arith

      pub p_number : big_pool n (pieces false s next end) ≡ w
      unfolding big_pool
      p_number = sym (simp (pieces_variable false s at end h (sym is ∙ x))) ∙ inv

pub ruleset pool_laws = (p_done, p_cut, p_inside, p_less, p_many, p_long, p_text, p_number_less, p_number)
