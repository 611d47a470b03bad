-- A text laid down is the text read, in canonical form; and bytes in canonical form with the same text are the same. Assumes nothing.
use Prim.Native.Nat.{ℕ, suc, ◌+◌, ◌-◌, ◌<◌}
use mathlib.Core.Bool.{true, false, cond, false≢true}
use mathlib.Core.List.{List, [], ◌∷◌}
use mathlib.Core.Path.{◌≡◌, refl, sym, ap, ap₂, ◌∙◌}
use native.Mathlib.Omega.{arith}
use borrow.Author.Tests.{lt-ltb, ltb-true, eqb-true}
use lib.Dec.{ltb, eqb}
use lib.ListN.{length, get_or, drop}
use lib.Seq.{length-take-le, drop-drop}
use Rattle.leaf.proofs.Cases.{both}
use Rattle.pour.specs.Pour.{blank, padded, zeros}
use Rattle.pour.proofs.PadLaws.{length_padded, take_padded, drop_padded, zeros_blank, blank_zeros, padded_take}
use Rattle.pour.proofs.StrideLaws.{all_first, all_rest}
use Rattle.rules.specs.Card.{unlocked, locked, empty, by_code}
use Rattle.word.specs.Word.{word_in, laid_word, tidy_word, is_marked, laid_marked, tidy_marked, guard_of, hand_of}

module _ (n : ℕ) (w : List ℕ) (l : length w < n) where
  pub length_laid : length (laid_word n w) ≡ n
  unfolding laid_word
  length_laid = ap suc (length_padded (n - 1) w (omega arith)) ∙ omega arith

  pub word_laid : word_in (laid_word n w) ≡ w
  unfolding laid_word word_in
  word_laid = take_padded (n - 1) w

  pub tidy_laid : tidy_word (laid_word n w) ≡ true
  unfolding tidy_word laid_word
  tidy_laid =
      let e : drop (1 + length w) (length w ∷ padded (n - 1) w) ≡ blank (n - 1 - length w) = sym (drop-drop (length w) 1 (length w ∷ padded (n - 1) w)) ∙ drop_padded (n - 1) w in
      simp (lt-ltb (length w) (length (length w ∷ padded (n - 1) w)) (rw length_laid l), e) (zeros_blank (n - 1 - length w))

-- bytes in canonical form are those that their text has
pub laid_word_lem : (p : List ℕ) → tidy_word p ≡ true → laid_word (length p) (word_in p) ≡ p
unfolding tidy_word laid_word word_in
laid_word_lem [] t = absurd (false≢true t)
laid_word_lem (x ∷ xs) t =
    let h : x < length (x ∷ xs) = ltb-true x (length (x ∷ xs)) (all_first (ltb x (length (x ∷ xs))) (zeros (drop (1 + x) (x ∷ xs))) t) in
    let z : zeros (drop x xs) ≡ true = ap zeros (drop-drop x 1 (x ∷ xs)) ∙ all_rest (ltb x (length (x ∷ xs))) (zeros (drop (1 + x) (x ∷ xs))) t in
    let k : suc (length xs) - 1 ≡ length xs = omega arith in
    ap₂ ◌∷◌ (length-take-le x xs (omega arith)) (rw k (padded_take (length xs) x xs refl (omega arith) z))

pub word_same : (p q : List ℕ) → length p ≡ length q → tidy_word p ≡ true → tidy_word q ≡ true → word_in p ≡ word_in q → p ≡ q
word_same p q l s t e = sym (laid_word_lem p s) ∙ ap₂ laid_word l e ∙ laid_word_lem q t

-- a text behind a mark
module _ (n : ℕ) (w : List ℕ) (l : length w + 1 < n) where
  pub marked_laid : is_marked (laid_marked n w) ≡ true
  unfolding is_marked laid_marked
  marked_laid = refl

  pub behind_laid : word_in (drop 1 (laid_marked n w)) ≡ w
  unfolding laid_marked
  behind_laid = word_laid (n - 1) w (omega arith)

  pub tidy_marked_lem : tidy_marked (laid_marked n w) ≡ true
  unfolding tidy_marked laid_marked
  tidy_marked_lem = tidy_laid (n - 1) w (omega arith)

  pub length_marked : length (laid_marked n w) ≡ n
  unfolding laid_marked
  length_marked = ap suc (length_laid (n - 1) w (omega arith)) ∙ omega arith

-- no text, or just the bytes of one
marked_none : (p : List ℕ) → tidy_marked p ≡ true → is_marked p ≡ false → p ≡ blank (length p)
unfolding tidy_marked is_marked
marked_none p t m =
    both (eqb (get_or p 0 0) 0) (λ e. blank_zeros p (simp e at t)) (λ e. absurd (false≢true (sym (simp e at m))))

marked_some : (p : List ℕ) → tidy_marked p ≡ true → is_marked p ≡ true → p ≡ laid_marked (length p) (word_in (drop 1 p))
unfolding tidy_marked is_marked laid_marked
marked_some [] t m = absurd (false≢true m)
marked_some (x ∷ xs) t m =
    both (eqb x 0) (λ e. absurd (false≢true (simp e at m)))
    (λ e.
    let u : cond (eqb x 1) (tidy_word xs) false ≡ true = simp e at t in
    let k : suc (length xs) - 1 ≡ length xs = omega arith in
    ap₂ ◌∷◌ (eqb-true x 1 (all_first (eqb x 1) (tidy_word xs) u)) (sym (rw k (laid_word_lem xs (all_rest (eqb x 1) (tidy_word xs) u)))))

module _ (p q : List ℕ) (l : length p ≡ length q) (s : tidy_marked p ≡ true) (t : tidy_marked q ≡ true) where
  marked_same : is_marked p ≡ is_marked q → (is_marked p ≡ true → word_in (drop 1 p) ≡ word_in (drop 1 q)) → p ≡ q
  marked_same e f =
      both (is_marked p)
      (λ m. marked_some p s m ∙ ap₂ laid_marked l (f m) ∙ sym (marked_some q t (sym e ∙ m)))
      (λ m. marked_none p s m ∙ ap (λ (n : ℕ). blank n) l ∙ sym (marked_none q t (sym e ∙ m)))

  -- what they are read as tells whether there is a text, and which
  read_same : {A : Type 0} (none : A) (some : List ℕ → A) → ((v w : List ℕ) → some v ≡ some w → v ≡ w) → ((w : List ℕ) → none ≡ some w → ⊥) →
      cond (is_marked p) (some (word_in (drop 1 p))) none ≡ cond (is_marked q) (some (word_in (drop 1 q))) none → p ≡ q
  read_same none some same apart e =
      both (is_marked p)
      (λ m. both (is_marked q)
      (λ k. marked_same (m ∙ sym k) (λ _. same _ _ (simp (m, k) at e)))
      (λ k. absurd (apart (word_in (drop 1 p)) (sym (simp (m, k) at e)))))
      (λ m. both (is_marked q)
      (λ k. absurd (apart (word_in (drop 1 q)) (simp (m, k) at e)))
      (λ k. marked_same (m ∙ sym k) (λ j. absurd (false≢true (sym m ∙ j)))))

  pub guard_same : guard_of p ≡ guard_of q → p ≡ q
  unfolding guard_of
  guard_same = read_same unlocked locked (λ v w h. cc) (λ w h. let z : ◌≡◌ {A = ℕ} 0 1 = cc in omega arith)

  pub hand_same : hand_of p ≡ hand_of q → p ≡ q
  unfolding hand_of
  hand_same = read_same empty by_code (λ v w h. cc) (λ w h. let z : ◌≡◌ {A = ℕ} 0 1 = cc in omega arith)
