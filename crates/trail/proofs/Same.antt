-- Arrays in canonical form with the same history are the same array.
-- Assumes nothing.
use Prim.Native.Nat.{ℕ, ◌-◌, ◌*◌, ◌≤◌}
use mathlib.Core.Bool.{true}
use mathlib.Core.List.{List, [], ◌∷◌, ◌++◌}
use mathlib.Core.Path.{◌≡◌, refl, sym, ap, ◌∙◌}
use native.Mathlib.Omega.{arith}
use lib.ListN.{length, get_or, take, drop, length-drop, take-append-drop}
use lib.Seq.{length-take-le}
use Rattle.pour.specs.Pour.{blank}
use Rattle.pour.specs.Stride.{each, all}
use Rattle.pour.proofs.PadLaws.{blank_zeros}
use Rattle.pour.proofs.StrideLaws.{each_take, each_front, each_same}
use Rattle.rules.specs.Card.{History}
use Rattle.word.specs.Word.{word_in, tidy_word}
use Rattle.word.proofs.Same.{word_same}
use Rattle.trail.specs.Trail.{history_of, tidy_trail}
use Rattle.trail.proofs.TrailLaws.{count_of, tidy_long, tidy_count, tidy_rest, tidy_entries}

one_entry : (p q : List ℕ) → length p ≡ 66 → length q ≡ 66 → tidy_word p ≡ true → tidy_word q ≡ true → word_in p ≡ word_in q → p ≡ q
one_entry p q l m s t e = word_same p q (l ∙ sym m) s t e

two_first : (a : List ℕ) → 2 ≤ length a → a ≡ get_or a 0 0 ∷ get_or a 1 0 ∷ drop 2 a
two_first [] h = absurd (omega arith)
two_first (x ∷ []) h = absurd (omega arith)
two_first (x ∷ y ∷ a) h = refl

-- the parts of an array in canonical form
module _ (a : List ℕ) (t : tidy_trail a ≡ true) where
  abbrev count : ℕ
  count = get_or a 0 0

  unfoldable used : List ℕ
  used = take (count * 66) (drop 2 a)

  used_long : length used ≡ count * 66
  unfolding used
  used_long = length-take-le (count * 66) (drop 2 a) (simp length-drop (omega (arith, tidy_long a t, tidy_count a t)))

  used_tidy : all (each tidy_word count 66 used) ≡ true
  unfolding used
  used_tidy = ap all (each_front tidy_word count 66 (drop 2 a)) ∙ tidy_entries a t

  used_entries : each word_in count 66 used ≡ (history_of a).entries
  unfolding used history_of
  used_entries = each_front word_in count 66 (drop 2 a) ∙ sym (each_take word_in count 16 66 (drop 2 a) (tidy_count a t))

  count_is : count ≡ length (history_of a).entries
  count_is = omega (arith, count_of a, tidy_count a t)

  unused : drop (count * 66) (drop 2 a) ≡ blank (1056 - count * 66)
  unused =
      let l : length (drop (count * 66) (drop 2 a)) ≡ 1056 - count * 66 = simp length-drop (omega (arith, tidy_long a t)) in
      blank_zeros (drop (count * 66) (drop 2 a)) (tidy_rest a t) ∙ ap (λ (n : ℕ). blank n) l

  body : drop 2 a ≡ used ++ blank (1056 - count * 66)
  unfolding used
  body = sym (take-append-drop (count * 66) (drop 2 a)) ∙ ap (λ (r : List ℕ). used ++ r) unused

pub trail_same : (a b : List ℕ) → tidy_trail a ≡ true → tidy_trail b ≡ true → history_of a ≡ history_of b → a ≡ b
unfolding history_of
trail_same a b s t e =
    let c : get_or a 0 0 ≡ get_or b 0 0 = count_is a s ∙ ap (λ (h : History). length h.entries) e ∙ sym (count_is b t) in
    let p : get_or a 1 0 ≡ get_or b 1 0 = ap (λ (h : History). h.pointer) e in
    let n = get_or a 0 0 in
    let u : used a s ≡ used b t =
    each_same word_in tidy_word 66 one_entry n (used a s) (used b t) (used_long a s) (rw c (used_long b t)) (used_tidy a s) (rw c (used_tidy b t))
    (used_entries a s ∙ ap (λ (h : History). h.entries) e ∙ sym (used_entries b t) ∙ rw c) in
    let d : drop 2 a ≡ drop 2 b = body a s ∙ rw (u, c) (sym (body b t)) in
    two_first a (omega (arith, tidy_long a s)) ∙ rw (c, p, d) (sym (two_first b (omega (arith, tidy_long b t))))
