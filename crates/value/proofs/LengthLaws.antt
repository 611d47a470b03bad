-- The ways through `length_from`, and that no length passes what a page can name.
-- Assumes nothing.
use Prim.Native.Nat.{ℕ, ◌+◌, ◌-◌, ◌*◌, ◌≤◌, ◌<◌}
use mathlib.Core.Bool.{Bool}
use mathlib.Core.List.{List}
use mathlib.Core.Path.{◌≡◌}
use native.Mathlib.Omega.{arith}
use mir.Syntax.{w64}
use mir.Val.{Fits}
use lib.ListN.{length, drop, length-append, length-drop}
use lib.Seq.{length-take-le}
use Rattle.rules.specs.declared.Pair.{Pair}
use Rattle.rules.specs.declared.Pair.TheVariants.{Text, Number, Broken}
use Rattle.rules.specs.Bytes.{part}
use Rattle.rules.specs.Store.{read, value_bytes}
use Rattle.rules.specs.Value.{joined}
use Rattle.leaf.proofs.Cases.{was}
use Rattle.variable.specs.View.{seen, view}
use Rattle.piece.specs.Piece.{pieces_from, piece_at}
use Rattle.piece.proofs.PieceLaws.{from_full, from_text, from_variable, from_cut, number_in, text_in}

-- each byte of a page that was passed adds at most what one variable holds
unfoldable pub Counted : ℕ → ℕ → ℕ → Type 0
Counted from at sum = (from ≤ at) × (at - from ≤ 4096) × (sum ≤ 4351 * (at - from))

pub counted_start : (from : ℕ) → Counted from from 0
unfolding Counted
counted_start from = omega arith

pub counted_small : (from at sum : ℕ) → Counted from at sum → sum ≤ 17821696
unfolding Counted
counted_small from at sum w = omega arith

module _ (list : Bool) (s : List ℕ) (from at end sum : ℕ) (w : Counted from at sum) (h : at < end) (k : end ≤ length s) (l : length s ≤ 4096) (p : Pair) (is : p ≡ piece_at list s at end) where
  module _ (a b : ℕ) (x : p ≡ Text a b) where
    pub text_up : a ≤ b
    text_up = let z = text_in s at end h list (was is x) in omega arith

    pub text_fits : Fits w64 (sum + (b - a))
    unfolding Counted
    text_fits = let z = text_in s at end h list (was is x) in omega arith

    pub counted_text : Counted from b (sum + (b - a))
    unfolding Counted
    counted_text = let z = text_in s at end h list (was is x) in omega arith

  module _ (n next : ℕ) (x : p ≡ Number n next) (v : List ℕ) (short : length v ≤ 255 + length s) where
    pub number_fits : Fits w64 (sum + length v)
    unfolding Counted
    number_fits = let z = number_in s at end h list (was is x) in omega arith

    pub counted_number : Counted from next (sum + length v)
    unfolding Counted
    counted_number = let z = number_in s at end h list (was is x) in omega arith

module _ (page env temp perm : List ℕ) (list : Bool) (from at end sum : ℕ) (inv : sum + length (joined (view page env temp perm) (pieces_from list page at end)) ≡ length (joined (view page env temp perm) (pieces_from list page from end))) where
  pub length_done : end ≤ at → sum ≡ length (joined (view page env temp perm) (pieces_from list page from end))
  unfolding joined
  length_done h = let e = rw (from_full page at end list h) at inv in omega arith

  module _ (h : at < end) (p : Pair) (is : p ≡ piece_at list page at end) where
    pub length_cut : p ≡ Broken → sum ≡ length (joined (view page env temp perm) (pieces_from list page from end))
    unfolding joined
    length_cut x = let e = rw (from_cut page at end h list (was is x)) at inv in omega arith

    pub length_text : end ≤ length page → (a b : ℕ) → p ≡ Text a b → sum + (b - a) + length (joined (view page env temp perm) (pieces_from list page b end)) ≡ length (joined (view page env temp perm) (pieces_from list page from end))
    unfolding joined view seen part
    length_text k a b x =
        let z = text_in page at end h list (was is x) in
        let m = length-take-le (b - a) (drop a page) (rw (length-drop a page) (omega arith)) in
        let e = simp (from_text page at end h list (was is x), length-append) at inv in
        omega arith

    pub length_variable : end ≤ length page → (n next : ℕ) → p ≡ Number n next → (v : List ℕ) → v ≡ value_bytes (read (view page env temp perm) n) → sum + length v + length (joined (view page env temp perm) (pieces_from list page next end)) ≡ length (joined (view page env temp perm) (pieces_from list page from end))
    unfolding joined
    length_variable k n next x v f =
        let e = simp (from_variable page at end h list k (was is x), length-append, ← f) at inv in
        omega arith

pub ruleset length_laws = (counted_start, counted_small, text_up, text_fits, counted_text, number_fits, counted_number, length_done, length_cut, length_text, length_variable)
