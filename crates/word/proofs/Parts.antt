-- The canonical forms of the guard, the command in hand and the reference wanted, taken apart and put together.
-- Assumes nothing.
use Prim.Native.Nat.{ℕ, suc, ◌≤◌}
use mathlib.Core.Bool.{true}
use mathlib.Core.List.{List}
use mathlib.Core.Path.{◌≡◌, refl}
use native.Mathlib.Omega.{arith}
use lib.ListN.{length, length-replicate}
use lib.Dec.{eqb}
use borrow.Author.Tests.{eq-eqb, eqb-true}
use Rattle.pour.specs.Pour.{blank}
use Rattle.pour.proofs.PadLaws.{zeros_blank}
use Rattle.pour.proofs.StrideLaws.{all_first, all_rest}
use Rattle.rules.specs.Card.{unlocked, locked, empty, by_code}
use Rattle.word.specs.Word.{laid_word, laid_marked, is_marked, guard_of, hand_of, tidy_word, tidy_marked, tidy_guard, tidy_hand, tidy_wanted}
use Rattle.word.proofs.Same.{length_laid, tidy_laid, marked_laid, behind_laid, tidy_marked_lem, length_marked}

module _ (p : List ℕ) where
  pub guard_marked : tidy_guard p ≡ true → tidy_marked p ≡ true
  unfolding tidy_guard
  guard_marked t = all_rest (eqb (length p) 18) (tidy_marked p) t

  pub guard_long : tidy_guard p ≡ true → length p ≡ 18
  unfolding tidy_guard
  guard_long t = eqb-true _ _ (all_first (eqb (length p) 18) (tidy_marked p) t)

  pub guard_tidy : length p ≡ 18 → tidy_marked p ≡ true → tidy_guard p ≡ true
  unfolding tidy_guard
  guard_tidy l t = simp (eq-eqb _ _ l, t) refl

  pub hand_marked : tidy_hand p ≡ true → tidy_marked p ≡ true
  unfolding tidy_hand
  hand_marked t = all_rest (eqb (length p) 257) (tidy_marked p) t

  pub hand_long : tidy_hand p ≡ true → length p ≡ 257
  unfolding tidy_hand
  hand_long t = eqb-true _ _ (all_first (eqb (length p) 257) (tidy_marked p) t)

  pub hand_tidy : length p ≡ 257 → tidy_marked p ≡ true → tidy_hand p ≡ true
  unfolding tidy_hand
  hand_tidy l t = simp (eq-eqb _ _ l, t) refl

  pub wanted_word : tidy_wanted p ≡ true → tidy_word p ≡ true
  unfolding tidy_wanted
  wanted_word t = all_rest (eqb (length p) 66) (tidy_word p) t

  pub wanted_long : tidy_wanted p ≡ true → length p ≡ 66
  unfolding tidy_wanted
  wanted_long t = eqb-true _ _ (all_first (eqb (length p) 66) (tidy_word p) t)

  pub wanted_tidy : length p ≡ 66 → tidy_word p ≡ true → tidy_wanted p ≡ true
  unfolding tidy_wanted
  wanted_tidy l t = simp (eq-eqb _ _ l, t) refl

marked_blank : (n : ℕ) → tidy_marked (blank (suc n)) ≡ true
unfolding tidy_marked
marked_blank n = zeros_blank (suc n)

pub blank_guard : tidy_guard (blank 18) ≡ true
blank_guard = guard_tidy (blank 18) (length-replicate {A = ℕ} 18 0) (marked_blank 17)

pub blank_hand : tidy_hand (blank 257) ≡ true
blank_hand = hand_tidy (blank 257) (length-replicate {A = ℕ} 257 0) (marked_blank 256)

pub blank_wanted : tidy_wanted (blank 66) ≡ true
unfolding tidy_word
blank_wanted = wanted_tidy (blank 66) (length-replicate {A = ℕ} 66 0) (zeros_blank 65)

pub guard_blank : guard_of (blank 18) ≡ unlocked
unfolding guard_of is_marked
guard_blank = refl

pub hand_blank : hand_of (blank 257) ≡ empty
unfolding hand_of is_marked
hand_blank = refl

module _ (w : List ℕ) where
  pub guard_laid : length w ≤ 16 → guard_of (laid_marked 18 w) ≡ locked w
  unfolding guard_of
  guard_laid l = rw (marked_laid 18 w (omega arith), behind_laid 18 w (omega arith)) refl

  pub laid_guard : length w ≤ 16 → tidy_guard (laid_marked 18 w) ≡ true
  laid_guard l = guard_tidy (laid_marked 18 w) (length_marked 18 w (omega arith)) (tidy_marked_lem 18 w (omega arith))

  pub hand_laid : length w ≤ 255 → hand_of (laid_marked 257 w) ≡ by_code w
  unfolding hand_of
  hand_laid l = rw (marked_laid 257 w (omega arith), behind_laid 257 w (omega arith)) refl

  pub laid_hand : length w ≤ 255 → tidy_hand (laid_marked 257 w) ≡ true
  laid_hand l = hand_tidy (laid_marked 257 w) (length_marked 257 w (omega arith)) (tidy_marked_lem 257 w (omega arith))

  pub laid_wanted : length w ≤ 65 → tidy_wanted (laid_word 66 w) ≡ true
  laid_wanted l = wanted_tidy (laid_word 66 w) (length_laid 66 w (omega arith)) (tidy_laid 66 w (omega arith))
