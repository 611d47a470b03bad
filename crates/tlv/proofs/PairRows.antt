-- Laws of `pieces`: they unfold by one pair. With these no proof looks at how far `pieces_up_to` may go.
-- Assumes nothing.
use Prim.Native.Nat.{ℕ, zero, suc, ◌-◌, ◌≤◌, ◌<◌}
use mathlib.Core.List.{List}
use mathlib.Core.Path.{◌≡◌, refl, ap, ◌∙◌}
use mathlib.Core.Bool.{Bool}
use lib.Dec.{leb}
use native.Mathlib.Omega.{arith}
use borrow.Author.Tests.{le-leb, lt-leb}
use Rattle.rules.specs.declared.Pair.{Pair}
use Rattle.rules.specs.declared.Pair.TheVariants.{Text, Number, Broken}
use Rattle.rules.specs.Pieces.{pair_at, Pieces, full, cut, text, variable, piece, pieces_up_to, pieces}
use Rattle.leaf.proofs.Cases.{both, tests}
use Rattle.tlv.proofs.Bounds.{PairIn, pair_in}

-- two ways to go on that agree after the place give the same pieces
piece_same : (k l : ℕ → Pieces) (at end : ℕ) (p : Pair) → PairIn at end p → ((q : ℕ) → at < q → q ≤ end → k q ≡ l q) → piece k p ≡ piece l p
unfolding piece
piece_same k l at end (Text from to) w same = ap (text from to) (same to (omega arith) (omega arith))
piece_same k l at end (Number n next) w same = ap (variable n) (same next (omega arith) (omega arith))
piece_same k l at end Broken w same = refl

module _ (substituted : Bool) (s : List ℕ) where
  enough : (n m at end : ℕ) → end - at ≤ n → end - at ≤ m → pieces_up_to n substituted s at end ≡ pieces_up_to m substituted s at end
  unfolding pieces_up_to
  enough zero zero at end a b = refl
  enough zero (suc m) at end a b = simp (le-leb end at (omega arith))
  enough (suc n) zero at end a b = simp (le-leb end at (omega arith))
  enough (suc n) (suc m) at end a b =
      both (leb end at) (λ t. simp t) (λ t. simp t (piece_same _ _ at end (pair_at substituted s at end) (pair_in substituted s at end) (λ q after within. enough n m q end (omega tests) (omega tests))))

  module _ (at end : ℕ) where
    pub pieces_full : end ≤ at → pieces substituted s at end ≡ full
    unfolding pieces pieces_up_to
    pieces_full h = enough (end - at) zero at end (omega arith) (omega arith)

    pieces_more : at < end → pieces substituted s at end ≡ piece (λ p. pieces substituted s p end) (pair_at substituted s at end)
    unfolding pieces pieces_up_to
    pieces_more h =
        enough (end - at) (suc (end - at)) at end (omega arith) (omega arith)
        ∙ simp (lt-leb end at h) (piece_same _ _ at end (pair_at substituted s at end) (pair_in substituted s at end) (λ q after within. enough (end - at) (end - q) q end (omega arith) (omega arith)))

    pub pieces_text : {from to : ℕ} → at < end → pair_at substituted s at end ≡ Text from to → pieces substituted s at end ≡ text from to (pieces substituted s to end)
    unfolding piece
    pieces_text h e = pieces_more h ∙ simp e

    pub pieces_variable : {n next : ℕ} → at < end → pair_at substituted s at end ≡ Number n next → pieces substituted s at end ≡ variable n (pieces substituted s next end)
    unfolding piece
    pieces_variable h e = pieces_more h ∙ simp e

    pub pieces_cut : at < end → pair_at substituted s at end ≡ Broken → pieces substituted s at end ≡ cut
    unfolding piece
    pieces_cut h e = pieces_more h ∙ simp e
