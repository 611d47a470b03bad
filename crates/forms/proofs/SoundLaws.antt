-- Where `is_sound` answers true each class from 4 on sees the same, in the shape of its needs.
-- Assumes nothing.
use Prim.Native.Nat.{ℕ, ◌-◌}
use mathlib.Core.Bool.{Bool, true, false, not}
use mathlib.Core.List.{List}
use mathlib.Core.Path.{◌≡◌, refl, sym, ◌∙◌}
use lib.ListN.{take, drop}
use lib.Dec.{eqb}
use borrow.Author.Tests.{le-ltb, eq-eqb, ne_eqb, eqb-true}
use Rattle.rules.specs.Bytes.{part}
use Rattle.rules.specs.Pieces.{pieces}
use Rattle.rules.specs.Shape.{body_of}
use Rattle.rules.specs.Reference.{mark}
use Rattle.rules.specs.Forms.{out_of_place, size_of, out_of_size, long_reference, big_pool, crowded, too_big, beyond_at, faulty}
use Rattle.rules.specs.Loader.{look, judged_look}
use Rattle.leaf.proofs.Cases.{both}
use Rattle.forms.specs.Sound.{Seen}
use Rattle.std.specs.Prelude.{Option}

pub is_no : (b : Bool) → not b ≡ true → b ≡ false
is_no true e = cc
is_no false e = refl

module _ (s : List ℕ) (within last cell at tag start stop : ℕ) (o : Bool) (oe : o ≡ out_of_place s last cell tag start stop) (ox : o ≡ false)
    (y : Bool) (ye : y ≡ beyond_at s within tag start stop) (yx : y ≡ false) (l : ℕ) (le : l ≡ size_of tag) (z : Bool) (ze : z ≡ out_of_size l (stop - start)) (zx : z ≡ false) where
  sized : out_of_size (size_of tag) (stop - start) ≡ false
  sized = sym (rw le at ze) ∙ zx

  seen : ((from : ℕ) → crowded s within from at tag ≡ false → too_big s within from at tag start stop ≡ false) → Seen s within last cell at tag start stop (judged_look (body_of s within tag start stop))
  unfolding look faulty
  seen big class from c five six =
      both (eqb class 4) (λ t. simp (le-ltb class 4 c, t, sym oe ∙ ox, sym ye ∙ yx)) (λ t.
      both (eqb class 5) (λ t2. simp (le-ltb class 4 c, t, t2, five (eqb-true class 5 t2), sym ye ∙ yx)) (λ t2.
      both (eqb class 6) (λ t3. simp (le-ltb class 4 c, t, t2, t3, big from (six (eqb-true class 6 t3)), sym ye ∙ yx)) (λ t3.
      both (eqb class 7) (λ t4. simp (le-ltb class 4 c, t, t2, t3, t4, sym ye ∙ yx)) (λ t4. simp (le-ltb class 4 c, t, t2, t3, t4, sym ye ∙ yx)))))

  pub sound_reference : tag ≡ 0x0C → (m : Option ℕ) → m ≡ mark (take (stop - start) (drop start s)) → (r : Bool) → r ≡ long_reference (stop - start) m
      → not r ≡ true → Seen s within last cell at tag start stop (judged_look (body_of s within tag start stop))
  unfolding too_big part
  sound_reference t m f r g n =
      seen (λ from c. let x : long_reference (stop - start) (mark (take (stop - start) (drop start s))) ≡ false = sym (rw f at g) ∙ is_no r n in simp (sized, eq-eqb tag 0x0C t, x))

  module _ (t : tag ≡ 0x0C → ⊥) where
    pub sound_pool : tag ≡ 0x07 → (r : Bool) → r ≡ big_pool 0 (pieces false s start stop) → not r ≡ true → Seen s within last cell at tag start stop (judged_look (body_of s within tag start stop))
    unfolding too_big
    sound_pool u r g n = seen (λ from c. simp (sized, ne_eqb tag 0x0C t, eq-eqb tag 0x07 u, sym g ∙ is_no r n))

    pub sound_other : (tag ≡ 0x07 → ⊥) → true ≡ true → Seen s within last cell at tag start stop (judged_look (body_of s within tag start stop))
    unfolding too_big
    sound_other u n = seen (λ from c. simp (sized, ne_eqb tag 0x0C t, ne_eqb tag 0x07 u, c))

pub ruleset sound_laws = (sound_reference, sound_pool, sound_other)
