-- Laws of `pieces_from`: the pieces of a value unfold by one, and where that one lies.
-- Assumes nothing.
use Prim.Native.Nat.{ℕ, suc, ◌+◌, ◌-◌, ◌≤◌, ◌<◌}
use mathlib.Core.Bool.{Bool, true, false}
use mathlib.Core.List.{List, [], ◌∷◌}
use mathlib.Core.Path.{◌≡◌}
use native.Mathlib.Numerals.{add-one}
use native.Mathlib.Omega.{arith}
use lib.ListN.{length, get_or}
use lib.Seq.{drop-cons}
use lib.Dec.{eqb}
use borrow.Author.Tests.{le-leb, lt-leb, eq-eqb, ne_eqb}
use Rattle.rules.specs.Bytes.{part}
use Rattle.rules.specs.Pieces.{full, cut, text, variable, pair_at, named}
use Rattle.rules.specs.Page.{content_at}
use Rattle.rules.specs.Value.{pieces_of}
use Rattle.rules.specs.declared.Pair.{Pair}
use Rattle.rules.specs.declared.Pair.TheVariants.{Text, Number, Broken}
use Rattle.leaf.proofs.Cases.{both, was}
use Rattle.tlv.proofs.Bounds.{pair_text, pair_number}
use Rattle.tlv.proofs.PairRows.{pieces_full, pieces_text, pieces_variable, pieces_cut}
use Rattle.piece.specs.Piece.{pieces_from, piece_at, contents_at}

-- the pieces of a value by its tag
pub pieces_by_tag : (s : List ℕ) (tag start stop : ℕ) → pieces_from (eqb tag 0x0D) s (contents_at s tag start stop) stop ≡ pieces_of s tag start stop
unfolding pieces_from contents_at pieces_of
pieces_by_tag s tag start stop = both (eqb tag 0x0D) (λ t. simp t) (λ t. simp t)

pub part_end : (s : List ℕ) (at end : ℕ) → end ≤ at → part s at end ≡ []
unfolding part
part_end s at end h = let e : end - at ≡ 0 = omega arith in rw e

pub part_more : (s : List ℕ) (at end : ℕ) → at < end → end ≤ length s → part s at end ≡ get_or s at 0 ∷ part s (at + 1) end
unfolding part
part_more s at end h k =
    let n : end - at ≡ suc (end - (at + 1)) = omega arith in
    rw (n, drop-cons s at 0 (omega arith), add-one at)

module _ (s : List ℕ) (at end : ℕ) where
  pub from_full : (list : Bool) → end ≤ at → pieces_from list s at end ≡ full
  unfolding pieces_from named
  from_full true h = rw (part_end s at end h)
  from_full false h = pieces_full true s at end h

  -- a piece that was read
  module _ (h : at < end) where
    number_in_list : {n next : ℕ} → piece_at true s at end ≡ Number n next → (get_or s at 0 ≡ n) × (at + 1 ≡ next)
    unfolding piece_at
    number_in_list e = let x = simp (lt-leb end at h) at e in (cc, cc)

    pair_in_value : (p : Pair) → piece_at false s at end ≡ p → pair_at true s at end ≡ p
    unfolding piece_at
    pair_in_value p e = simp (lt-leb end at h) at e

    pub from_variable : (list : Bool) {n next : ℕ} → end ≤ length s → piece_at list s at end ≡ Number n next → pieces_from list s at end ≡ variable n (pieces_from list s next end)
    unfolding pieces_from named
    from_variable true k e = let x = number_in_list e in rw (part_more s at end h k, x.0, x.1)
    from_variable false k e = pieces_variable true s at end h (pair_in_value _ e)

    pub number_in : (list : Bool) {n next : ℕ} → piece_at list s at end ≡ Number n next → (at < next) × (next ≤ end)
    number_in true e = let x = number_in_list e in omega arith
    number_in false e = pair_number true s at end (pair_in_value _ e)

    no_text : {from to : ℕ} → piece_at true s at end ≡ Text from to → ⊥
    unfolding piece_at
    no_text e = let x = simp (lt-leb end at h) at e in let z : ◌≡◌ {A = ℕ} 0 1 = cc in omega arith

    no_cut : piece_at true s at end ≡ Broken → ⊥
    unfolding piece_at
    no_cut e = let x = simp (lt-leb end at h) at e in let z : ◌≡◌ {A = ℕ} 0 1 = cc in omega arith

    pub from_text : (list : Bool) {from to : ℕ} → piece_at list s at end ≡ Text from to → pieces_from list s at end ≡ text from to (pieces_from list s to end)
    unfolding pieces_from
    from_text true e = absurd (no_text e)
    from_text false e = pieces_text true s at end h (pair_in_value _ e)

    pub text_in : (list : Bool) {from to : ℕ} → piece_at list s at end ≡ Text from to → (at < from) × (from ≤ to) × (to ≤ end)
    text_in true e = absurd (no_text e)
    text_in false e = pair_text true s at end (pair_in_value _ e)

    pub from_cut : (list : Bool) → piece_at list s at end ≡ Broken → pieces_from list s at end ≡ cut
    unfolding pieces_from
    from_cut true e = absurd (no_cut e)
    from_cut false e = pieces_cut true s at end h (pair_in_value _ e)

-- what is left of a value falls with each piece
module _ (list : Bool) (s : List ℕ) (at end : ℕ) (h : at < end) (p : Pair) (is : p ≡ piece_at list s at end) where
  pub text_less : (a b : ℕ) → p ≡ Text a b → end - b < end - at
  text_less a b x = let w = text_in s at end h list (was is x) in omega arith

  pub number_less : (n next : ℕ) → p ≡ Number n next → end - next < end - at
  number_less n next x = let w = number_in s at end h list (was is x) in omega arith

pub ruleset less_laws = (text_less, number_less)

-- the ways through `piece_at` and `contents_at`
module _ (list : Bool) (s : List ℕ) (at end : ℕ) where
  pub piece_none : end ≤ at → Broken ≡ piece_at list s at end
  unfolding piece_at
  piece_none h = simp (le-leb end at h)

  module _ (h : at < end) where
    pub piece_number : list ≡ true → Number (get_or s at 0) (at + 1) ≡ piece_at list s at end
    unfolding piece_at
    piece_number x = simp (lt-leb end at h, x)

    pub piece_pair : list ≡ false → (p : Pair) → p ≡ pair_at true s at end → p ≡ piece_at list s at end
    unfolding piece_at
    piece_pair x p e = simp (lt-leb end at h, x) e

module _ (s : List ℕ) (tag start stop : ℕ) where
  pub contents_list : tag ≡ 0x0D → start ≡ contents_at s tag start stop
  unfolding contents_at
  contents_list h = simp (eq-eqb _ _ h)

  pub contents_inline : (tag ≡ 0x0D → ⊥) → (p : ℕ) → p ≡ content_at s tag start stop → p ≡ contents_at s tag start stop
  unfolding contents_at
  contents_inline h p e = simp (ne_eqb _ _ h) e

pub ruleset piece_laws = (piece_none, piece_number, piece_pair, contents_list, contents_inline)
