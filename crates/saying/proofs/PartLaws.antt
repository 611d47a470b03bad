-- Lengths of parts, in the shape of what the proofs need.
-- Assumes nothing.
use Rattle.std.proofs.Common.{◌≡◌, ℕ, ◌-◌, ◌≤◌, List, length, take, drop, get_or, ap, arith, length-take, length-drop}
use Rattle.rules.specs.Bytes.{part}
use Rattle.word.specs.Word.{word_in}

take_drop_fits : (s : List ℕ) (k a : ℕ) → length (take k (drop a s)) ≤ length s
take_drop_fits s k a = let e = length-take k (drop a s) in let f = length-drop a s in omega (arith, e, f)

pub part_fits : (s r : List ℕ) (a b n : ℕ) → r ≡ part s a b → length s ≡ n → length r ≤ n
unfolding part
part_fits s r a b n e l = let f : length r ≡ length (part s a b) = ap length e in let g = take_drop_fits s (b - a) a in omega (arith, f, g)

pub word_fits : (s r : List ℕ) → r ≡ word_in s → length s ≡ 66 → length r ≤ 255
unfolding word_in
word_fits s r e l = let f : length r ≡ length (word_in s) = ap length e in let g = take_drop_fits s (get_or s 0 0) 1 in omega (arith, f, g)
