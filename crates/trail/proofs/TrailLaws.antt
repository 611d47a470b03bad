-- What the bytes of a history mean, before and after a write, and that they stay in canonical form.
-- Assumes nothing.
use Prim.Native.Nat.{ℕ, zero, suc, ◌+◌, ◌-◌, ◌*◌, ◌≤◌, ◌<◌, min}
use mathlib.Core.Bool.{Bool, true, false, cond}
use mathlib.Core.List.{List, [], ◌∷◌, ◌++◌}
use mathlib.Core.Path.{◌≡◌, refl, sym, ap, ◌∙◌}
use native.Mathlib.Omega.{arith}
use lib.ListN.{length, get_or, set, take, drop, length-append, length-take, length-drop, length-set, get_or-eq_default}
use lib.Seq.{take_all, take_at, take-nil, drop-drop, get_or-take, get_or-set_same, get_or-set_other, drop-set-lt, length-take-le}
use lib.Dec.{ltb, leb, eqb}
use borrow.Author.Tests.{eq-eqb, lt-ltb, le-ltb, le-leb, eqb-true, leb-true, ltb-true, ltb-false}
use Rattle.leaf.proofs.Cases.{both}
use Rattle.pour.specs.Pour.{blank, padded, zeros}
use Rattle.pour.specs.Stride.{each, all}
use Rattle.pour.proofs.PadLaws.{length_padded, drop_padded, zeros_blank}
use Rattle.pour.proofs.StrideLaws.{length_each, each_at, each_take, each_front, each_append, all_first, all_rest}
use Rattle.rules.specs.Trail.{pushed, topped, last, lowered}
use Rattle.word.specs.Word.{word_in, laid_word, tidy_word}
use Rattle.word.proofs.Same.{length_laid, word_laid, tidy_laid}
use Rattle.trail.specs.Trail.{history_of, reach, laid_trail, pushed_trail, tidy_trail}

-- all 16 entries, used or not
abbrev sixteen : List ℕ → List (List ℕ)
sixteen a = each word_in 16 66 (drop 2 a)

long : (a : List ℕ) → length (sixteen a) ≡ 16
long a = length_each word_in 16 66 (drop 2 a)

pub count_of : (a : List ℕ) → length (history_of a).entries ≡ min (get_or a 0 0) 16
unfolding history_of
count_of a = length-take (get_or a 0 0) (sixteen a) ∙ ap (min (get_or a 0 0)) (long a)

module _ (a : List ℕ) (n : ℕ) where
  pub count_over : n ≡ get_or a 0 0 → 16 < n → 16 ≡ length (history_of a).entries
  count_over e h = omega (arith, count_of a)

  pub count_is : n ≡ get_or a 0 0 → n ≤ 16 → n ≡ length (history_of a).entries
  count_is e h = omega (arith, count_of a)

  pub pointer_is : n ≡ get_or a 1 0 → n ≡ (history_of a).pointer
  unfolding history_of
  pointer_is e = e

  module _ (e : n ≡ length (history_of a).entries) (k p : ℕ) (j : p ≡ get_or a 1 0 - 1) (i : k ≡ p) where
    pub last_none : n ≤ k → [] ≡ last (history_of a)
    unfolding last history_of
    last_none h = sym (rw (← j, ← i) (get_or-eq_default (history_of a).entries [] {n = k} (omega arith)))

    pub last_is : k < n → (w : List ℕ) → w ≡ word_in (take (2 + k * 66 + 66 - (2 + k * 66)) (drop (2 + k * 66) a)) → w ≡ last (history_of a)
    unfolding last history_of
    last_is h w f =
        let c = count_of a in
        let m : 2 + k * 66 + 66 - (2 + k * 66) ≡ 66 = omega arith in
        f ∙ sym (rw (← j, ← i, get_or-take (get_or a 0 0) (sixteen a) k [] (omega arith), each_at word_in 16 66 (drop 2 a) k [] (omega arith), drop-drop (k * 66) 2 a, m))

-- what is still in reach
take_both : {A : Type 0} (p c : ℕ) (xs : List A) → take p (take c xs) ≡ take (min p (min c (length xs))) xs
take_both zero c xs = let e : min 0 (min c (length xs)) ≡ 0 = omega arith in rw e
take_both (suc p) zero xs = let e : min (suc p) (min 0 (length xs)) ≡ 0 = omega arith in rw e
take_both (suc p) (suc c) [] = sym (take-nil (min (suc p) (min (suc c) 0)))
take_both {A} (suc p) (suc c) (x ∷ xs) =
    let e : min (suc p) (min (suc c) (suc (length xs))) ≡ suc (min p (min c (length xs))) = omega arith in
    rw e (ap (λ (l : List A). x ∷ l) (take_both p c xs))

module _ (a : List ℕ) (n : ℕ) (e : n ≡ min (get_or a 1 0) (min (get_or a 0 0) 16)) where
  reach_is : reach a ≡ each word_in n 66 (drop 2 a)
  unfolding reach history_of
  reach_is = take_both (get_or a 1 0) (get_or a 0 0) (sixteen a) ∙ rw (long a, ← e) (each_take word_in n 16 66 (drop 2 a) (omega arith))

  reach_long : length (reach a) ≡ n
  reach_long = ap length reach_is ∙ length_each word_in n 66 (drop 2 a)

-- a history laid down from the bytes of its entries
module _ (m : ℕ) (body : List ℕ) (l : length body ≡ m * 66) (h : m ≤ 16) where
  front : {A : Type 0} (f : List ℕ → A) → each f m 66 (padded 1056 body) ≡ each f m 66 body
  unfolding padded
  front f = sym (each_front f m 66 (padded 1056 body)) ∙ ap (each f m 66) (take_at body (blank (1056 - length body)) (m * 66) l)

  laid_history : history_of (laid_trail m body) ≡ topped (each word_in m 66 body)
  unfolding history_of laid_trail topped
  laid_history =
      let e : take m (each word_in 16 66 (padded 1056 body)) ≡ each word_in m 66 body = each_take word_in m 16 66 (padded 1056 body) h ∙ front word_in in
      rw (e, length_each word_in m 66 body)

  laid_tidy : all (each tidy_word m 66 body) ≡ true → tidy_trail (laid_trail m body) ≡ true
  unfolding tidy_trail laid_trail
  laid_tidy t =
      let c : length (padded 1056 body) ≡ 1056 = length_padded 1056 body (omega arith) in
      let d : suc (suc (length (padded 1056 body))) ≡ 1058 = omega arith in
      let z : drop (m * 66) (padded 1056 body) ≡ blank (1056 - length body) = ap (λ (k : ℕ). drop k (padded 1056 body)) (sym l) ∙ drop_padded 1056 body in
      simp (eq-eqb _ _ d, le-leb _ _ h, z, zeros_blank (1056 - length body), front tidy_word) t

all_take : (n : ℕ) (xs : List Bool) → all xs ≡ true → all (take n xs) ≡ true
unfolding all
all_take zero xs e = refl
all_take (suc n) [] e = refl
all_take (suc n) (x ∷ xs) e = rw (all_first x (all xs) e) (all_take n xs (all_rest x (all xs) e))

all_more_one : (xs : List Bool) (y : Bool) → all xs ≡ true → y ≡ true → all (xs ++ y ∷ []) ≡ true
unfolding all
all_more_one [] y e f = rw f
all_more_one (x ∷ xs) y e f = rw (all_first x (all xs) e) (all_more_one xs y (all_rest x (all xs) e) f)

-- what canonical form says
module _ (a : List ℕ) (t : tidy_trail a ≡ true) where
  abbrev entries_tidy : Bool
  entries_tidy = all (each tidy_word (get_or a 0 0) 66 (drop 2 a))

  abbrev rest_zero : Bool
  rest_zero = zeros (drop (get_or a 0 0 * 66) (drop 2 a))

  abbrev after : Bool
  after = cond (leb (get_or a 0 0) 16) (cond rest_zero entries_tidy false) false

  pub tidy_long : length a ≡ 1058
  unfolding tidy_trail
  tidy_long = eqb-true _ _ (all_first (eqb (length a) 1058) after t)

  within : after ≡ true
  unfolding tidy_trail
  within = all_rest (eqb (length a) 1058) after t

  pub tidy_count : get_or a 0 0 ≤ 16
  tidy_count = leb-true _ _ (all_first (leb (get_or a 0 0) 16) (cond rest_zero entries_tidy false) within)

  pub tidy_rest : zeros (drop (get_or a 0 0 * 66) (drop 2 a)) ≡ true
  tidy_rest = all_first rest_zero entries_tidy (all_rest (leb (get_or a 0 0) 16) (cond rest_zero entries_tidy false) within)

  pub tidy_entries : all (each tidy_word (get_or a 0 0) 66 (drop 2 a)) ≡ true
  tidy_entries = all_rest rest_zero entries_tidy (all_rest (leb (get_or a 0 0) 16) (cond rest_zero entries_tidy false) within)

  -- entries that stay are in canonical form
  tidy_front : (n : ℕ) → n ≤ get_or a 0 0 → all (each tidy_word n 66 (drop 2 a)) ≡ true
  tidy_front n h = ap all (sym (each_take tidy_word n (get_or a 0 0) 66 (drop 2 a) h)) ∙ all_take n (each tidy_word (get_or a 0 0) 66 (drop 2 a)) tidy_entries

-- one entry more
module _ {A : Type 0} (f : List ℕ → A) (k : ℕ) (x r : List ℕ) (l : length x ≡ k * 66) (short : length r ≤ 65) where
  one_more_lem : each f (k + 1) 66 (x ++ laid_word 66 r) ≡ each f k 66 x ++ f (laid_word 66 r) ∷ []
  unfolding each
  one_more_lem =
      let c : length (laid_word 66 r) ≡ 66 = length_laid 66 r (omega arith) in
      each_append f k 1 66 x (laid_word 66 r) l ∙ rw (take_all 66 (laid_word 66 r) (omega arith))

module _ (a x : List ℕ) (n : ℕ) (e : n ≡ min (get_or a 1 0) (min (get_or a 0 0) 16)) (l : length a ≡ 1058) where
  body_long : length (take (n * 66) (drop 2 a)) ≡ n * 66
  body_long = length-take-le (n * 66) (drop 2 a) (simp length-drop (omega arith))

  module _ (f : x ≡ laid_trail n (take (n * 66) (drop 2 a))) where
    pub cut_bytes : x ≡ laid_trail (length (reach a)) (take (length (reach a) * 66) (drop 2 a))
    cut_bytes = rw (reach_long a n e) f

    pub cut_history : history_of x ≡ topped (take (history_of a).pointer (history_of a).entries)
    unfolding reach
    cut_history =
        ap history_of f ∙ laid_history n (take (n * 66) (drop 2 a)) body_long (omega arith)
        ∙ ap topped (each_front word_in n 66 (drop 2 a) ∙ sym (reach_is a n e))

    pub cut_tidy : tidy_trail a ≡ true → tidy_trail x ≡ true
    cut_tidy t =
        ap tidy_trail f
        ∙ laid_tidy n (take (n * 66) (drop 2 a)) body_long (omega arith) (ap all (each_front tidy_word n 66 (drop 2 a)) ∙ tidy_front a t n (omega arith))

  module _ (r : List ℕ) (short : length r ≤ 65) (f : x ≡ pushed_trail n a r) where
    pub push_bytes : x ≡ pushed_trail (length (reach a)) a r
    push_bytes = rw (reach_long a n e) f

    abbrev below : List ℕ
    below = take (n * 66) (drop 2 a)

    abbrev above : List ℕ
    above = drop 66 (drop 2 a)

    below_long : length (below ++ laid_word 66 r) ≡ (n + 1) * 66
    below_long = length-append below (laid_word 66 r) ∙ omega (arith, body_long, length_laid 66 r (omega arith))

    above_long : length above ≡ 990
    above_long = length-drop 66 (drop 2 a) ∙ simp length-drop (omega arith)

    above_all : length (above ++ laid_word 66 r) ≡ 1056
    above_all = length-append above (laid_word 66 r) ∙ omega (arith, above_long, length_laid 66 r (omega arith))

    push_one : n < 16 → x ≡ laid_trail (n + 1) (below ++ laid_word 66 r)
    unfolding pushed_trail
    push_one h = f ∙ simp (lt-ltb _ _ h)

    push_last : 16 ≤ n → x ≡ laid_trail 16 (above ++ laid_word 66 r)
    unfolding pushed_trail
    push_last h = f ∙ simp (le-ltb _ _ h)

    pub push_history : history_of x ≡ topped (pushed (take (history_of a).pointer (history_of a).entries) r)
    unfolding reach pushed each
    push_history =
        both (ltb n 16)
        (λ t.
        let h : n < 16 = ltb-true _ _ t in
        ap history_of (push_one h) ∙ laid_history (n + 1) (below ++ laid_word 66 r) below_long (omega arith)
        ∙ ap topped (one_more_lem word_in n below r body_long short ∙ rw (each_front word_in n 66 (drop 2 a), word_laid 66 r (omega arith), ← (reach_is a n e)) (sym (simp (reach_long a n e, t)))))
        (λ t.
        let h : 16 ≤ n = ltb-false _ _ t in
        let q : n ≡ 16 = omega arith in
        let i : reach a ≡ each word_in 16 66 (drop 2 a) = reach_is a n e ∙ ap (λ (k : ℕ). each word_in k 66 (drop 2 a)) q in
        ap history_of (push_last h) ∙ laid_history 16 (above ++ laid_word 66 r) above_all (omega arith)
        ∙ ap topped (one_more_lem word_in 15 above r above_long short ∙ rw (word_laid 66 r (omega arith)) (sym (simp (reach_long a n e, t) (rw i)))))

    pub push_tidy : tidy_trail a ≡ true → tidy_trail x ≡ true
    unfolding each all
    push_tidy s =
        both (ltb n 16)
        (λ t.
        let h : n < 16 = ltb-true _ _ t in
        ap tidy_trail (push_one h)
        ∙ laid_tidy (n + 1) (below ++ laid_word 66 r) below_long (omega arith)
        (ap all (one_more_lem tidy_word n below r body_long short)
        ∙ all_more_one (each tidy_word n 66 below) (tidy_word (laid_word 66 r)) (ap all (each_front tidy_word n 66 (drop 2 a)) ∙ tidy_front a s n (omega arith)) (tidy_laid 66 r (omega arith))))
        (λ t.
        let h : 16 ≤ n = ltb-false _ _ t in
        let q : 16 ≤ get_or a 0 0 = omega arith in
        ap tidy_trail (push_last h)
        ∙ laid_tidy 16 (above ++ laid_word 66 r) above_all (omega arith)
        (ap all (one_more_lem tidy_word 15 above r above_long short)
        ∙ all_more_one (each tidy_word 15 66 above) (tidy_word (laid_word 66 r)) (all_rest (tidy_word (take 66 (drop 2 a))) (all (each tidy_word 15 66 above)) (tidy_front a s 16 q)) (tidy_laid 66 r (omega arith))))

-- the pointer moved
module _ (a x : List ℕ) (p : ℕ) (e : p ≡ get_or a 1 0 - 1) (l : length a ≡ 1058) (f : x ≡ set a 1 p) where
  pub lower_bytes : x ≡ set a 1 (get_or a 1 0 - 1)
  lower_bytes = f ∙ ap (set a 1) e

  first_kept : get_or (set a 1 p) 0 0 ≡ get_or a 0 0
  first_kept = get_or-set_other a 1 0 p 0 (λ z. omega arith)

  rest_kept : drop 2 (set a 1 p) ≡ drop 2 a
  rest_kept = drop-set-lt 2 a 1 p (omega arith)

  pub lower_history : history_of x ≡ lowered (history_of a)
  unfolding history_of lowered
  lower_history = rw (f, first_kept, rest_kept, get_or-set_same a 1 p 0 (omega arith), e)

  pub lower_tidy : tidy_trail a ≡ true → tidy_trail x ≡ true
  unfolding tidy_trail
  lower_tidy t = rw (f, length-set a 1 p, first_kept, rest_kept) t

pub ruleset trail_laws = (count_over, count_is, pointer_is, last_none, last_is, cut_bytes, cut_history, cut_tidy, push_bytes, push_history, push_tidy, lower_bytes, lower_history, lower_tidy)

-- an array of zeros holds nothing
pub history_blank : history_of (blank 1058) ≡ record { entries = []; pointer = 0 }
unfolding history_of
history_blank = refl

pub tidy_blank : tidy_trail (blank 1058) ≡ true
unfolding tidy_trail each all zeros
tidy_blank = refl
