-- The ways through `complaint_of` and `value_into`.
-- Assumes nothing.
use Prim.Native.Nat.{ℕ, ◌≤◌, ◌<◌}
use mathlib.Core.List.{List}
use mathlib.Core.Path.{◌≡◌}
use lib.ListN.{length}
use lib.Dec.{eqb}
use borrow.Author.Tests.{lt-ltb, le-ltb}
use Rattle.rules.specs.declared.Complaint.{Complaint}
use Rattle.rules.specs.Card.{Card}
use Rattle.rules.specs.Value.{pieces_of, complaint, joined}
use Rattle.pour.specs.Pour.{poured}
use Rattle.piece.specs.Piece.{pieces_from, contents_at}
use Rattle.piece.proofs.PieceLaws.{pieces_by_tag}
use Rattle.value.specs.Into.{into}

module _ (c : Card) (s : List ℕ) (tag start stop from : ℕ) (is : from ≡ contents_at s tag start stop) where
  by_tag : pieces_from (eqb tag 0x0D) s from stop ≡ pieces_of s tag start stop
  by_tag = rw is (pieces_by_tag s tag start stop)

  pub complaint_by_tag : (known : List ℕ) (r : Complaint) → r ≡ complaint c known (pieces_from (eqb tag 0x0D) s from stop) → r ≡ complaint c known (pieces_of s tag start stop)
  complaint_by_tag known r e = rw by_tag at e

  module _ (n : ℕ) (e : n ≡ length (joined c (pieces_from (eqb tag 0x0D) s from stop))) where
    pub length_by_tag : n ≡ length (joined c (pieces_of s tag start stop))
    length_by_tag = rw by_tag at e

    pub value_over : (out : List ℕ) → 255 < n → out ≡ into out (joined c (pieces_of s tag start stop))
    unfolding into
    value_over out h = simp (← length_by_tag, lt-ltb _ _ h)

    pub value_fits : (out d : List ℕ) → n ≤ 255 → d ≡ poured out 0 (joined c (pieces_from (eqb tag 0x0D) s from stop)) → d ≡ into out (joined c (pieces_of s tag start stop))
    unfolding into
    value_fits out d h f = simp (← length_by_tag, le-ltb _ _ h) (rw by_tag at f)

pub ruleset tag_laws = (complaint_by_tag, length_by_tag, value_over, value_fits)
