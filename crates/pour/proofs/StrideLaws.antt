-- Lists read at a fixed stride: what a piece means, a piece poured, and that tidy lists of one meaning are the same list.
-- Assumes nothing.
use Prim.Native.Nat.{ℕ, zero, suc, ◌+◌, ◌-◌, ◌*◌, ◌≤◌, ◌<◌}
use mathlib.Core.Bool.{Bool, true, false, cond}
use mathlib.Core.List.{List, [], ◌∷◌, ◌++◌}
use mathlib.Core.Path.{◌≡◌, refl, sym, ap, ap₂, ◌∙◌}
use native.Mathlib.Numerals.{add-one}
use native.Mathlib.Omega.{arith}
use native.Mathlib.Nat.{sub-zero, zero-add, zero-mul, suc-mul, add_comm, mul-le-mul_right}
use lib.ListN.{length, get_or, set, take, drop, replicate, length-drop, take-append-drop, drop_of_length-le, replicate-append-replicate, length-replicate}
use lib.Seq.{take_at, drop_at, take-add, drop-drop, take-append-le, drop-append-le, length-take-le, drop-cons, take-take, take-nil, get_or-take, get_or-drop}
use Rattle.std.specs.Prelude.{IsTrue, ◌↔◌, EachIndex, map}
use Rattle.std.specs.Simd.{first_chunks}
use Rattle.pour.specs.Pour.{poured, blank}
use Rattle.pour.specs.Stride.{each, all}

next : (k w : ℕ) → suc k * w ≡ w + k * w
next k w = suc-mul k w ∙ add_comm (k * w) w

-- a piece poured above the first one
module _ (a b : List ℕ) (w at : ℕ) (fits : w + at ≤ length a) where
  take_poured : take w (poured a (w + at) b) ≡ take w a
  unfolding poured
  take_poured =
      let l : length (take (w + at) a) ≡ w + at = length-take-le (w + at) a fits in
      take-append-le w (take (w + at) a) (b ++ drop (length b) (drop (w + at) a)) (omega arith) ∙ take-take w (w + at) a (omega arith)

  drop_poured : drop w (poured a (w + at) b) ≡ poured (drop w a) at b
  unfolding poured
  drop_poured =
      let l : length (take (w + at) a) ≡ w + at = length-take-le (w + at) a fits in
      let m : length (take w a) ≡ w = length-take-le w a (omega arith) in
      let d : drop w (take (w + at) a) ≡ take at (drop w a) = rw (take-add w at a) (drop_at (take w a) (take at (drop w a)) w m) in
      drop-append-le w (take (w + at) a) (b ++ drop (length b) (drop (w + at) a)) (omega arith) ∙ rw (d, drop-drop at w a)

poured_front : (a b : List ℕ) (w : ℕ) → length b ≡ w → poured a 0 b ≡ b ++ drop w a
unfolding poured
poured_front a b w e = rw e

part_take : (w : ℕ) (q : List ℕ) (h n : ℕ) → h + n ≤ w → take n (drop h (take w q)) ≡ take n (drop h q)
part_take w q zero n fits = take-take n w q (omega arith)
part_take zero q (suc h) n fits = absurd (omega arith)
part_take (suc w) [] (suc h) n fits = refl
part_take (suc w) (x ∷ q) (suc h) n fits = part_take w q h n (omega arith)

pub drop_take : (n w : ℕ) (q : List ℕ) → drop n (take w q) ≡ take (w - n) (drop n q)
drop_take zero w q = rw (sub-zero w)
drop_take (suc n) zero q = let e : 0 - suc n ≡ 0 = omega arith in rw e
drop_take (suc n) (suc w) [] = sym (take-nil (suc w - suc n))
drop_take (suc n) (suc w) (x ∷ q) = let e : suc w - suc n ≡ w - n = omega arith in rw e (drop_take n w q)

-- what is read of a piece is read of the list
module _ (w at : ℕ) (a : List ℕ) where
  pub piece_byte : (i : ℕ) → i < w → get_or (take w (drop at a)) i 0 ≡ get_or a (at + i) 0
  piece_byte i h = get_or-take w (drop at a) i 0 h ∙ get_or-drop at a i 0

  pub piece_part : (h n : ℕ) → h + n ≤ w → take n (drop h (take w (drop at a))) ≡ take n (drop (at + h) a)
  piece_part h n fits = rw (part_take w (drop at a) h n fits, drop-drop h at a)

module _ {A : Type 0} (f : List ℕ → A) where
  pub length_each : (n w : ℕ) (a : List ℕ) → length (each f n w a) ≡ n
  unfolding each
  length_each zero w a = refl
  length_each (suc n) w a = ap suc (length_each n w (drop w a))

  pub each_at : (n w : ℕ) (a : List ℕ) (k : ℕ) (d : A) → k < n → get_or (each f n w a) k d ≡ f (take w (drop (k * w) a))
  unfolding each
  each_at zero w a k d h = absurd (omega arith)
  each_at (suc n) w a zero d h = rw (zero-mul w)
  each_at (suc n) w a (suc k) d h = each_at n w (drop w a) k d (omega arith) ∙ rw (drop-drop (k * w) w a, next k w)

  pub each_poured : (n w : ℕ) (a : List ℕ) (k : ℕ) (b : List ℕ) → k < n → length b ≡ w → n * w ≤ length a → each f n w (poured a (k * w) b) ≡ set (each f n w a) k (f b)
  unfolding each
  each_poured zero w a k b h e fits = absurd (omega arith)
  each_poured (suc n) w a zero b h e fits =
      let p : poured a (0 * w) b ≡ b ++ drop w a = ap (λ (m : ℕ). poured a m b) (zero-mul w) ∙ poured_front a b w e in
      rw (p, take_at b (drop w a) w e, drop_at b (drop w a) w e)
  each_poured (suc n) w a (suc k) b h e fits =
      let q : suc k * w ≤ suc n * w = mul-le-mul_right w (omega arith) in
      let p : suc k * w ≡ w + k * w = next k w in
      let r : n * w ≤ length (drop w a) = simp length-drop (omega (arith, next n w)) in
      rw (p, take_poured a b w (k * w) (omega arith), drop_poured a b w (k * w) (omega arith), each_poured n w (drop w a) k b (omega arith) e r)

  pub each_blank : (n w : ℕ) → each f n w (blank (n * w)) ≡ replicate n (f (blank w))
  unfolding each
  each_blank zero w = refl
  each_blank (suc n) w =
      let e : blank (suc n * w) ≡ blank w ++ blank (n * w) = ap (λ (m : ℕ). blank m) (next n w) ∙ sym (replicate-append-replicate w (n * w) 0) in
      let l : length (blank w) ≡ w = length-replicate w 0 in
      rw (e, take_at (blank w) (blank (n * w)) w l, drop_at (blank w) (blank (n * w)) w l, each_blank n w)

  pub each_take : (k n w : ℕ) (a : List ℕ) → k ≤ n → take k (each f n w a) ≡ each f k w a
  unfolding each
  each_take zero n w a h = refl
  each_take (suc k) zero w a h = absurd (omega arith)
  each_take (suc k) (suc n) w a h = ap (λ (l : List A). f (take w a) ∷ l) (each_take k n w (drop w a) (omega arith))

  pub each_front : (k w : ℕ) (a : List ℕ) → each f k w (take (k * w) a) ≡ each f k w a
  unfolding each
  each_front zero w a = refl
  each_front (suc k) w a =
      let m : w + k * w - w ≡ k * w = omega arith in
      rw (next k w, take-take w (w + k * w) a (omega arith), drop_take w (w + k * w) a, m, each_front k w (drop w a))

  pub each_append : (k m w : ℕ) (x y : List ℕ) → length x ≡ k * w → each f (k + m) w (x ++ y) ≡ each f k w x ++ each f m w y
  unfolding each
  each_append zero m w x y l =
      let z : zero * w ≡ 0 = zero-mul w in
      let e : x ≡ [] = drop_of_length-le x {i = 0} (omega arith) in
      rw (e, zero-add m)
  each_append (suc k) m w x y l =
      let p : suc k * w ≡ w + k * w = next k w in
      let s : suc k + m ≡ suc (k + m) = omega arith in
      rw (s, take-append-le w x y (omega arith), drop-append-le w x y (omega arith), each_append k m w (drop w x) y (simp length-drop (omega arith)))

  module _ (n w : ℕ) (a : List ℕ) (k : ℕ) where
    pub each_more : k < n → drop k (each f n w a) ≡ f (take (k * w + w - k * w) (drop (k * w) a)) ∷ drop (k + 1) (each f n w a)
    each_more h =
        let l : length (each f n w a) ≡ n = length_each n w a in
        let e : k * w + w - k * w ≡ w = omega arith in
        drop-cons (each f n w a) k (f []) (omega arith) ∙ rw (each_at n w a k (f []) h, e, add-one k)

    pub each_done : n ≤ k → drop k (each f n w a) ≡ []
    each_done h = let l : length (each f n w a) ≡ n = length_each n w a in drop_of_length-le (each f n w a) {i = k} (omega arith)

pub all_first : (x y : Bool) → cond x y false ≡ true → x ≡ true
all_first true y e = refl
all_first false y e = e

pub all_rest : (x y : Bool) → cond x y false ≡ true → y ≡ true
all_rest true y e = e
all_rest false y e = cc

pub false_both : (t : Bool) → cond t false false ≡ false
false_both true = refl
false_both false = refl

pub same_or_false : (t : Bool) → cond t true false ≡ t
same_or_false true = refl
same_or_false false = refl

-- a test of every piece, piece by piece; `whole` is what all of them come to
module _ (t : List ℕ → Bool) (n w : ℕ) (a : List ℕ) (k : ℕ) (whole : Bool) (inv : all (drop k (each t n w a)) ≡ whole) where
  pub all_done : n ≤ k → true ≡ whole
  unfolding all
  all_done h = sym (ap all (each_done t n w a k h)) ∙ inv

  module _ (h : k < n) (r : Bool) (e : r ≡ t (take (k * w + w - k * w) (drop (k * w) a))) where
    step : all (drop k (each t n w a)) ≡ cond r (all (drop (k + 1) (each t n w a))) false
    unfolding all
    step = rw (each_more t n w a k h, e)

    pub all_more : r ≡ true → all (drop (k + 1) (each t n w a)) ≡ whole
    all_more f = sym (rw f at step) ∙ inv

    pub all_less : r ≡ false → false ≡ whole
    all_less f = sym (rw f at step) ∙ inv

-- two tests of which each passes where the other does
pub told : (r z : Bool) → (r ≡ true → z ≡ true) → (z ≡ true → r ≡ true) → r ≡ z
told true z f g = sym (f refl)
told false true f g = g refl
told false false f g = refl

-- what each piece means, by the pieces as the library cuts them
each_cut : {A : Type 0} (f : List ℕ → A) (n w : ℕ) (a : List ℕ) → map f (first_chunks w n a) ≡ each f n w a
unfolding each
each_cut f zero w a = refl
each_cut {A} f (suc n) w a = ap (λ (l : List A). f (take w a) ∷ l) (each_cut f n w (drop w a))

all_passed : (t : List ℕ → Bool) (ps : List (List ℕ)) → EachIndex ps (λ k. IsTrue (t (get_or ps k []))) → all (map t ps) ≡ true
unfolding all
all_passed t [] h = refl
all_passed t (p ∷ ps) h = rw (h 0 (omega arith)) (all_passed t ps (λ k l. h (suc k) (omega arith)))

passed : (t : List ℕ → Bool) (ps : List (List ℕ)) → all (map t ps) ≡ true → EachIndex ps (λ k. IsTrue (t (get_or ps k [])))
unfolding all
passed t [] e k l = absurd (omega arith)
passed t (p ∷ ps) e zero l = all_first (t p) (all (map t ps)) e
passed t (p ∷ ps) e (suc k) l = passed t ps (all_rest (t p) (all (map t ps)) e) k (omega arith)

-- an answer that is yes where each piece passes
pub all_by : (t : List ℕ → Bool) (n w : ℕ) (a : List ℕ) (ps : List (List ℕ)) → ps ≡ first_chunks w n a → (r : Bool) → (IsTrue r ↔ EachIndex ps (λ k. IsTrue (t (get_or ps k [])))) → r ≡ all (each t n w a)
all_by t n w a ps e r h =
    let m : map t ps ≡ each t n w a = ap (map t) e ∙ each_cut t n w a in
    told r (all (each t n w a)) (λ x. sym (ap all m) ∙ all_passed t ps (h.0 x)) (λ x. h.1 (passed t ps (ap all m ∙ x)))

all_set : (xs : List Bool) (k : ℕ) → all xs ≡ true → all (set xs k true) ≡ true
unfolding all
all_set [] k e = e
all_set (x ∷ xs) zero e = all_rest x (all xs) e
all_set (x ∷ xs) (suc k) e = rw (all_first x (all xs) e) (all_set xs k (all_rest x (all xs) e))

-- a tidy piece poured into a tidy list
pub all_poured : (t : List ℕ → Bool) (n w : ℕ) (a : List ℕ) (k : ℕ) (b : List ℕ) → k < n → length b ≡ w → n * w ≤ length a → t b ≡ true → all (each t n w a) ≡ true → all (each t n w (poured a (k * w) b)) ≡ true
all_poured t n w a k b h e fits i j = rw (each_poured t n w a k b h e fits, i) (all_set (each t n w a) k j)

-- pieces that all pass a test and whose meanings all pass another, piece by piece
mixed : (t tidy g fine sound : Bool) → cond tidy fine false ≡ sound → cond (cond t tidy false) (cond g fine false) false ≡ cond (cond t g false) sound false
mixed true tidy true fine sound e = e
mixed true tidy false fine sound e = false_both tidy
mixed false tidy g fine sound e = refl

module _ {A : Type 0} (f : List ℕ → A) (t : List ℕ → Bool) (g : A → Bool) (whole : List A → Bool) (none : whole [] ≡ true) (one : (x : A) (xs : List A) → whole (x ∷ xs) ≡ cond (g x) (whole xs) false) where
  pub each_both : (n w : ℕ) (a : List ℕ) → cond (all (each t n w a)) (whole (each f n w a)) false ≡ all (each (λ p. cond (t p) (g (f p)) false) n w a)
  unfolding each all
  each_both zero w a = none
  each_both (suc n) w a =
      rw (one (f (take w a)) (each f n w (drop w a)))
      (mixed (t (take w a)) (all (each t n w (drop w a))) (g (f (take w a))) (whole (each f n w (drop w a))) (all (each (λ p. cond (t p) (g (f p)) false) n w (drop w a))) (each_both n w (drop w a)))

-- Where tidy pieces of one meaning are the same piece, tidy lists of one meaning are the same list.
module _ {A : Type 0} (f : List ℕ → A) (t : List ℕ → Bool) (w : ℕ) (one : (p q : List ℕ) → length p ≡ w → length q ≡ w → t p ≡ true → t q ≡ true → f p ≡ f q → p ≡ q) where
  pub each_same : (n : ℕ) (a b : List ℕ) → length a ≡ n * w → length b ≡ n * w → all (each t n w a) ≡ true → all (each t n w b) ≡ true → each f n w a ≡ each f n w b → a ≡ b
  unfolding each all
  each_same zero a b la lb ta tb e =
      let z : zero * w ≡ 0 = zero-mul w in
      let x : a ≡ [] = drop_of_length-le a {i = 0} (omega arith) in
      let y : b ≡ [] = drop_of_length-le b {i = 0} (omega arith) in
      x ∙ sym y
  each_same (suc n) a b la lb ta tb e =
      let z : suc n * w ≡ w + n * w = next n w in
      let x : take w a ≡ take w b =
      one (take w a) (take w b) (length-take-le w a (omega arith)) (length-take-le w b (omega arith)) (all_first (t (take w a)) (all (each t n w (drop w a))) ta) (all_first (t (take w b)) (all (each t n w (drop w b))) tb) (cc) in
      let y : drop w a ≡ drop w b =
      each_same n (drop w a) (drop w b) (simp length-drop (omega arith)) (simp length-drop (omega arith)) (all_rest (t (take w a)) (all (each t n w (drop w a))) ta) (all_rest (t (take w b)) (all (each t n w (drop w b))) tb) (cc) in
      sym (take-append-drop w a) ∙ ap₂ ◌++◌ x y ∙ take-append-drop w b
