-- The bytes that the writing functions leave.
-- Assumes nothing.
use Prim.Native.Nat.{ℕ, ◌+◌, ◌-◌, ◌*◌, ◌≤◌, ◌<◌}
use mathlib.Core.List.{List, [], ◌∷◌, ◌++◌, append-nil, append_assoc}
use mathlib.Core.Path.{◌≡◌, ap, ◌∙◌}
use native.Mathlib.Omega.{arith}
use lib.ListN.{length, take, drop, drop_of_length-le, length-append, length-drop}
use lib.Seq.{take_all, take_at, drop_at, take-append-add, drop-append-add, length-take-le}
use borrow.Author.Tests.{lt-ltb, le-ltb}
use Rattle.pour.specs.Pour.{blank, padded, slid}
use Rattle.word.specs.Word.{laid_word}
use Rattle.word.proofs.Same.{length_laid}
use Rattle.trail.specs.Trail.{laid_trail, pushed_trail}

-- two bytes before a list
module _ (y b : List ℕ) (two : length y ≡ 2) (j : ℕ) where
  take_two : take (2 + j) (y ++ b) ≡ y ++ take j b
  take_two = let q : 2 + j ≡ length y + j = omega arith in ap (λ (k : ℕ). take k (y ++ b)) q ∙ take-append-add y b j

  drop_two : drop (2 + j) (y ++ b) ≡ drop j b
  drop_two = let q : 2 + j ≡ length y + j = omega arith in ap (λ (k : ℕ). drop k (y ++ b)) q ∙ drop-append-add y b j

-- a body with zeros up to its end
laid_is : (m : ℕ) (y x z : List ℕ) → y ≡ m ∷ m ∷ [] → z ≡ blank (1056 - length x) → y ++ x ++ (z ++ []) ≡ laid_trail m x
unfolding laid_trail padded
laid_is m y x z e f = rw (append-nil z, append_assoc y x z, e, f)

module _ (s y z : List ℕ) (n : ℕ) (l : length s ≡ 1058) (h : n ≤ 16) (e : y ≡ n ∷ n ∷ []) where
  pub cut_is : z ≡ blank (length (take (1058 - (2 + n * 66)) (drop (2 + n * 66) (y ++ drop 2 s)))) → take (2 + n * 66) (y ++ drop 2 s) ++ (z ++ drop (1058 - (2 + n * 66)) (drop (2 + n * 66) (y ++ drop 2 s))) ≡ laid_trail n (take (n * 66) (drop 2 s))
  cut_is f =
      let b = drop 2 s in
      let two : length y ≡ 2 = ap length e in
      let lb : length b ≡ 1056 = length-drop 2 s ∙ omega arith in
      let lr : length (drop (n * 66) b) ≡ 1056 - n * 66 = length-drop (n * 66) b ∙ omega arith in
      let lt : length (take (n * 66) b) ≡ n * 66 = length-take-le (n * 66) b (omega arith) in
      let k : 1058 - (2 + n * 66) ≡ 1056 - n * 66 = omega arith in
      let g : z ≡ blank (1056 - length (take (n * 66) b)) = f ∙ rw (drop_two y b two (n * 66), k, take_all (1056 - n * 66) (drop (n * 66) b) (omega arith), lr, lt) in
      rw (take_two y b two (n * 66), drop_two y b two (n * 66), k, drop_of_length-le (drop (n * 66) b) {i = 1056 - n * 66} (omega arith)) (laid_is n y (take (n * 66) b) z e g)

module _ (s y z r : List ℕ) (n : ℕ) (l : length s ≡ 1058) (h : n < 16) (short : length r ≤ 65) (e : y ≡ (n + 1) ∷ (n + 1) ∷ []) where
  abbrev at : ℕ
  at = 2 + n * 66

  abbrev first : List ℕ
  first = y ++ drop 2 s

  abbrev next : List ℕ
  next = take at first ++ (z ++ drop (at + 66 - at) (drop at first))

  module _ (f : z ≡ laid_word (length (take (at + 66 - at) (drop at first))) r) where
    pub put_is : (w : List ℕ) → w ≡ blank (length (take (1058 - (at + 66)) (drop (at + 66) next))) → take (at + 66) next ++ (w ++ drop (1058 - (at + 66)) (drop (at + 66) next)) ≡ laid_trail (n + 1) (take (n * 66) (drop 2 s) ++ laid_word 66 r)
    put_is w g =
        let b = drop 2 s in
        let two : length y ≡ 2 = ap length e in
        let lb : length b ≡ 1056 = length-drop 2 s ∙ omega arith in
        let lr : length (drop (n * 66) b) ≡ 1056 - n * 66 = length-drop (n * 66) b ∙ omega arith in
        let lt : length (take (n * 66) b) ≡ n * 66 = length-take-le (n * 66) b (omega arith) in
        let k : at + 66 - at ≡ 66 = omega arith in
        let c : length (take 66 (drop (n * 66) b)) ≡ 66 = length-take-le 66 (drop (n * 66) b) (omega arith) in
        let i : z ≡ laid_word 66 r = f ∙ rw (k, drop_two y b two (n * 66), c) in
        let lz : length z ≡ 66 = ap length i ∙ length_laid 66 r (omega arith) in
        let x = take (n * 66) b ++ z in
        let lx : length x ≡ n * 66 + 66 = length-append (take (n * 66) b) z ∙ omega arith in
        let rest = drop 66 (drop (n * 66) b) in
        let ls : length rest ≡ 1056 - (n * 66 + 66) = length-drop 66 (drop (n * 66) b) ∙ omega arith in
        let q : next ≡ (y ++ x) ++ rest = rw (k, take_two y b two (n * 66), drop_two y b two (n * 66), append_assoc y (take (n * 66) b) (z ++ rest), append_assoc y x rest, append_assoc (take (n * 66) b) z rest) in
        let ly : length (y ++ x) ≡ at + 66 = length-append y x ∙ omega arith in
        let t : take (at + 66) next ≡ y ++ x = ap (take (at + 66)) q ∙ take_at (y ++ x) rest (at + 66) ly in
        let d : drop (at + 66) next ≡ rest = ap (drop (at + 66)) q ∙ drop_at (y ++ x) rest (at + 66) ly in
        let m : 1058 - (at + 66) ≡ 1056 - (n * 66 + 66) = omega arith in
        let v : w ≡ blank (1056 - length x) = g ∙ rw (d, m, take_all (1056 - (n * 66 + 66)) rest (omega arith), ls, lx) in
        rw (t, d, m, drop_of_length-le rest {i = 1056 - (n * 66 + 66)} (omega arith)) (laid_is (n + 1) y x w e v ∙ ap (λ (u : List ℕ). laid_trail (n + 1) (take (n * 66) b ++ u)) i)

module _ (a x r : List ℕ) (n : ℕ) where
  pub push_below : n < 16 → x ≡ laid_trail (n + 1) (take (n * 66) (drop 2 a) ++ laid_word 66 r) → x ≡ pushed_trail n a r
  unfolding pushed_trail
  push_below h e = simp (lt-ltb _ _ h) e

  pub push_full : 16 ≤ n → length a ≡ 1058 → (z : List ℕ) → z ≡ slid 66 (take 1056 (drop 2 a)) → x ≡ laid_trail 16 (take 990 (drop 2 (take 2 a ++ (z ++ drop 1056 (drop 2 a)))) ++ laid_word 66 r) → x ≡ pushed_trail n a r
  unfolding pushed_trail slid
  push_full h l z e f =
      let b = drop 2 a in
      let lb : length b ≡ 1056 = length-drop 2 a ∙ omega arith in
      let t : take 1056 b ≡ b = take_all 1056 b (omega arith) in
      let la : length (take 2 a) ≡ 2 = length-take-le 2 a (omega arith) in
      let d : drop 2 (take 2 a ++ (z ++ drop 1056 b)) ≡ z ++ drop 1056 b = drop_at (take 2 a) (z ++ drop 1056 b) 2 la in
      let g : z ≡ drop 66 b ++ drop 990 b = e ∙ rw (t, lb) in
      let lf : length (drop 66 b) ≡ 990 = length-drop 66 b ∙ omega arith in
      let u : take 990 (z ++ drop 1056 b) ≡ drop 66 b = rw (g, append_assoc (drop 66 b) (drop 990 b) (drop 1056 b)) (take_at (drop 66 b) (drop 990 b ++ drop 1056 b) 990 lf) in
      simp (le-ltb _ _ h) (f ∙ rw (d, u))

pub ruleset cut_laws = (cut_is, put_is, push_below, push_full)
