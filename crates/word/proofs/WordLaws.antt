-- A text in its bytes: what the functions read and lay, in the shape of their needs. Assumes nothing.
use Prim.Native.Nat.{ℕ, suc, ◌+◌, ◌-◌, ◌≤◌, ◌<◌}
use mathlib.Core.Bool.{Bool, true, false, cond}
use mathlib.Core.List.{List, [], ◌∷◌, ◌++◌, append-nil}
use mathlib.Core.Path.{◌≡◌, refl, sym, ap, ◌∙◌}
use native.Mathlib.Omega.{arith}
use borrow.Author.Tests.{lt-ltb, le-ltb, eq-eqb, ne_eqb}
use lib.Dec.{eqb, ltb}
use lib.ListN.{length, get_or, take, drop, drop_of_length-le, length-drop, set, length-take}
use lib.Seq.{take_all}
use Rattle.pour.specs.Pour.{blank, padded, zeros}
use Rattle.word.specs.Word.{word_in, laid_word, tidy_word, is_marked, laid_marked, tidy_marked}

empty_word : (p : List ℕ) → length p ≡ 0 → p ≡ word_in p
unfolding word_in
empty_word [] e = refl
empty_word (x ∷ xs) e = absurd (omega arith)

module _ (p : List ℕ) where
  pub word_empty : length p ≡ 0 → p ≡ word_in p
  word_empty e = empty_word p e

  module _ (n : ℕ) (e : (n ≡ get_or p 0 0) × (n < 256)) where
    pub fine_long : length p ≤ n → ltb n (length p) ≡ tidy_word p
    unfolding tidy_word
    fine_long h = le-ltb n (length p) h ∙ sym (simp (← e.0, le-ltb n (length p) h))

    pub fine_zeros : n < length p → (z : Bool) → z ≡ zeros (take (length p - (1 + n)) (drop (1 + n) p)) → z ≡ tidy_word p
    unfolding tidy_word
    fine_zeros h z f =
        f ∙ ap zeros (take_all (length p - (1 + n)) (drop (1 + n) p) (simp length-drop (omega arith))) ∙ sym (simp (← e.0, lt-ltb n (length p) h))

  pub fine_empty : length p ≡ 0 → false ≡ tidy_word p
  unfolding tidy_word
  fine_empty h = sym (simp (le-ltb (get_or p 0 0) (length p) (omega arith)))

-- a byte set, and the bytes behind it laid
behind : (p : List ℕ) (x : ℕ) → length (take (length (set p 0 x) - 1) (drop 1 (set p 0 x))) ≡ length p - 1
behind [] x = refl
behind (y ∷ ys) x = simp length-take (omega arith)

set_head : (p z : List ℕ) (x : ℕ) → 0 < length p → take 1 (set p 0 x) ++ (z ++ drop (length (set p 0 x) - 1) (drop 1 (set p 0 x))) ≡ x ∷ z
set_head [] z x l = absurd (omega arith)
set_head (y ∷ ys) z x l =
    let k : suc (length ys) - 1 ≡ length ys = omega arith in
    ap (λ (t : List ℕ). x ∷ t) (rw (k, drop_of_length-le ys {i = length ys} (omega arith)) (append-nil z))

module _ (p z w : List ℕ) (l : length w < length p) where
  abbrev begun : List ℕ
  begun = set p 0 (length w)

  pub lay_is : z ≡ padded (length (take (length begun - 1) (drop 1 begun))) w → take 1 begun ++ (z ++ drop (length begun - 1) (drop 1 begun)) ≡ laid_word (length p) w
  unfolding laid_word
  lay_is f = set_head p z (length w) (omega arith) ∙ ap (λ (t : List ℕ). length w ∷ t) (f ∙ ap (λ (n : ℕ). padded n w) (behind p (length w)))

module _ (p z w : List ℕ) (l : length w + 1 < length p) where
  abbrev marked : List ℕ
  marked = set p 0 1

  pub lay_marked_is : z ≡ laid_word (length (take (length marked - 1) (drop 1 marked))) w → take 1 marked ++ (z ++ drop (length marked - 1) (drop 1 marked)) ≡ laid_marked (length p) w
  unfolding laid_marked
  lay_marked_is f = set_head p z 1 (omega arith) ∙ ap (λ (t : List ℕ). 1 ∷ t) (f ∙ ap (λ (n : ℕ). laid_word n w) (behind p 1))

-- a text behind a mark
module _ (p : List ℕ) where
  pub mark_none : length p ≡ 0 → false ≡ is_marked p
  unfolding is_marked
  mark_none e = none p e
    where
      none : (q : List ℕ) → length q ≡ 0 → false ≡ cond (eqb (get_or q 0 0) 0) false true
      none [] h = refl
      none (x ∷ xs) h = absurd (omega arith)

  pub mark_zero : get_or p 0 0 ≡ 0 → false ≡ is_marked p
  unfolding is_marked
  mark_zero e = sym (simp (eq-eqb (get_or p 0 0) 0 e))

  pub mark_one : (get_or p 0 0 ≡ 0 → ⊥) → true ≡ is_marked p
  unfolding is_marked
  mark_one e = sym (simp (ne_eqb (get_or p 0 0) 0 e))

  pub behind_none : length p ≡ 0 → p ≡ word_in (drop 1 p)
  behind_none e = none p e
    where
      none : (q : List ℕ) → length q ≡ 0 → q ≡ word_in (drop 1 q)
      none [] h = empty_word [] refl
      none (x ∷ xs) h = absurd (omega arith)

  rest_all : take (length p - 1) (drop 1 p) ≡ drop 1 p
  rest_all = take_all (length p - 1) (drop 1 p) (simp length-drop (omega arith))

  pub behind_part : (r : List ℕ) → r ≡ word_in (take (length p - 1) (drop 1 p)) → r ≡ word_in (drop 1 p)
  behind_part r e = e ∙ ap word_in rest_all

  pub fine_none : length p ≡ 0 → true ≡ tidy_marked p
  unfolding tidy_marked zeros
  fine_none e = none p e
    where
      none : (q : List ℕ) → length q ≡ 0 → true ≡ cond (eqb (get_or q 0 0) 0) (zeros q) (cond (eqb (get_or q 0 0) 1) (tidy_word (drop 1 q)) false)
      none [] h = refl
      none (x ∷ xs) h = absurd (omega arith)

  pub fine_unmarked : get_or p 0 0 ≡ 0 → (z : Bool) → z ≡ zeros p → z ≡ tidy_marked p
  unfolding tidy_marked
  fine_unmarked e z f = f ∙ sym (simp (eq-eqb (get_or p 0 0) 0 e))

  pub fine_other : (get_or p 0 0 ≡ 0 → ⊥) → (get_or p 0 0 ≡ 1 → ⊥) → false ≡ tidy_marked p
  unfolding tidy_marked
  fine_other e f = sym (simp (ne_eqb (get_or p 0 0) 0 e, ne_eqb (get_or p 0 0) 1 f))

  pub fine_marked : (get_or p 0 0 ≡ 0 → ⊥) → get_or p 0 0 ≡ 1 → (z : Bool) → z ≡ tidy_word (take (length p - 1) (drop 1 p)) → z ≡ tidy_marked p
  unfolding tidy_marked
  fine_marked e f z g = g ∙ ap tidy_word rest_all ∙ sym (simp (ne_eqb (get_or p 0 0) 0 e, eq-eqb (get_or p 0 0) 1 f))

-- at the length of an array
module _ (p q w : List ℕ) (n : ℕ) (l : length p ≡ n) where
  pub blank_at : q ≡ blank (length p) → q ≡ blank n
  blank_at e = e ∙ ap (λ (k : ℕ). blank k) l

  pub word_at : q ≡ laid_word (length p) w → q ≡ laid_word n w
  word_at e = e ∙ ap (λ (k : ℕ). laid_word k w) l

  pub marked_at : q ≡ laid_marked (length p) w → q ≡ laid_marked n w
  marked_at e = e ∙ ap (λ (k : ℕ). laid_marked k w) l

pub ruleset word_laws = (word_empty, fine_empty, fine_long, fine_zeros, lay_is)

pub ruleset mark_laws = (mark_none, mark_zero, mark_one, behind_none, behind_part, fine_none, fine_unmarked, fine_other, fine_marked, lay_marked_is, blank_at, word_at, marked_at)
