-- The test of number 35 on the history, entry by entry.
-- Assumes nothing.
use Prim.Native.Nat.{ℕ, ◌+◌, ◌-◌, ◌*◌, ◌/◌, ◌≤◌, ◌<◌}
use mathlib.Core.Bool.{Bool, true, false, cond}
use mathlib.Core.List.{List, []}
use mathlib.Core.Path.{◌≡◌, refl, sym, ap, ◌∙◌}
use native.Mathlib.Omega.{arith}
use lib.ListN.{length, get_or, take, drop, length-drop}
use lib.Seq.{take_all, drop-drop, length-take-le}
use lib.Dec.{leb, eqb}
use borrow.Author.Tests.{eq-eqb, le-leb, lt-leb}
use Rattle.leaf.proofs.Cases.{both}
use Rattle.pour.specs.Pour.{zeros}
use Rattle.pour.specs.Stride.{each, all}
use Rattle.pour.proofs.StrideLaws.{length_each, each_take, each_front, each_both, false_both, all_by}
use Rattle.rules.specs.Reference.{mark}
use Rattle.rules.specs.IsCard.{within, entry_by, entries_fine, history_fine}
use Rattle.word.specs.Word.{word_in, tidy_word}
use Rattle.trail.specs.Trail.{history_of, tidy_trail, sound_entry, sound_trail}
use Rattle.std.specs.Prelude.{Option, Some, None, IsTrue, ◌↔◌, EachIndex}
use Rattle.std.specs.Simd.{first_chunks}

module _ (e : List ℕ) (m : Option ℕ) (f : m ≡ mark e) where
  pub split_none : m ≡ None → false ≡ entry_by (length e) (mark e)
  unfolding entry_by
  split_none g = rw (← f, g)

  module _ (n : ℕ) (g : m ≡ Some n) where
    split_is : entry_by (length e) (mark e) ≡ cond (within 1 32 n) (within 1 32 (length e - (n + 1))) false
    unfolding entry_by
    split_is = rw (← f, g)

    module _ (b : Bool) (h : b ≡ within 1 32 n) where
      pub split_page : b ≡ false → false ≡ entry_by (length e) (mark e)
      split_page i = sym (split_is ∙ rw (← h, i))

      pub split_anchor : b ≡ true → (d : Bool) → d ≡ within 1 32 (length e - (n + 1)) → d ≡ entry_by (length e) (mark e)
      split_anchor i d j = j ∙ sym (split_is ∙ rw (← h, i))

pub ruleset split_laws = (split_none, split_page, split_anchor)

module _ (p : List ℕ) (t : Bool) (e : t ≡ tidy_word p) where
  pub entry_untidy : t ≡ false → false ≡ sound_entry p
  unfolding sound_entry
  entry_untidy f = rw (← e, f)

  pub entry_is : t ≡ true → (w : List ℕ) → w ≡ word_in p → (r : Bool) → r ≡ entry_by (length w) (mark w) → r ≡ sound_entry p
  unfolding sound_entry
  entry_is f w g r h = h ∙ sym (rw (← e, f, ← g))

module _ (a : List ℕ) (n : ℕ) (e : n ≡ get_or a 0 0) where
  pub history_long : 16 < n → false ≡ sound_trail a
  unfolding sound_trail tidy_trail
  history_long h = sym (simp (← e, lt-leb _ _ h, false_both (eqb (length a) 1058)))

  module _ (h : n ≤ 16) (p : ℕ) (f : p ≡ get_or a 1 0) where
    entries_are : (history_of a).entries ≡ each word_in n 66 (drop 2 a)
    unfolding history_of
    entries_are = rw (← e) (each_take word_in n 16 66 (drop 2 a) h)

    fine_is : history_fine (history_of a) ≡ cond (leb p n) (entries_fine (each word_in n 66 (drop 2 a))) false
    unfolding history_fine history_of
    fine_is = simp (entries_are, length_each word_in n 66 (drop 2 a), le-leb _ _ h, ← f)

    pub history_pointer : n < p → false ≡ sound_trail a
    unfolding sound_trail
    history_pointer i = sym (rw (fine_is, lt-leb p n i) (false_both (tidy_trail a)))

    module _ (i : p ≤ n) (l : length a ≡ 1058) (z : Bool) (g : z ≡ zeros (take (1058 - (2 + n * 66)) (drop (2 + n * 66) a))) where
      rest_is : z ≡ zeros (drop (n * 66) (drop 2 a))
      rest_is = g ∙ ap zeros (take_all (1058 - (2 + n * 66)) (drop (2 + n * 66) a) (simp length-drop (omega arith)) ∙ sym (drop-drop (n * 66) 2 a))

      sound_is : sound_trail a ≡ cond z (all (each sound_entry n 66 (drop 2 a))) false
      unfolding sound_trail tidy_trail sound_entry entries_fine
      sound_is =
          rw (fine_is, le-leb p n i)
          (simp (eq-eqb _ _ l, ← e, le-leb _ _ h, ← rest_is)
          (both z
          (λ t. simp t (each_both word_in tidy_word (λ w. entry_by (length w) (mark w)) entries_fine refl (λ x xs. refl) n 66 (drop 2 a)))
          (λ t. simp t)))

      pub history_rest : z ≡ false → false ≡ sound_trail a
      history_rest j = sym (sound_is ∙ rw j)

      pub history_entries : z ≡ true → (r : Bool) → r ≡ all (each sound_entry n 66 (take 1056 (drop 2 a))) → r ≡ sound_trail a
      history_entries j r k =
          let t : take 1056 (drop 2 a) ≡ drop 2 a = take_all 1056 (drop 2 a) (simp length-drop (omega arith)) in
          k ∙ rw t (sym (sound_is ∙ rw j))

pub entries_by : (n : ℕ) (a : List ℕ) → n * 66 ≤ length a → (ps : List (List ℕ)) → ps ≡ first_chunks 66 (length (take (n * 66) a) / 66) (take (n * 66) a) → (r : Bool) → (IsTrue r ↔ EachIndex ps (λ k. IsTrue (sound_entry (get_or ps k [])))) → r ≡ all (each sound_entry n 66 a)
entries_by n a h ps e r i =
    let l : length (take (n * 66) a) ≡ n * 66 = length-take-le (n * 66) a h in
    let m : length (take (n * 66) a) / 66 ≡ n = omega arith in
    all_by sound_entry n 66 (take (n * 66) a) ps (rw m at e) r i ∙ ap all (each_front sound_entry n 66 a)

pub ruleset fine_laws = (entry_untidy, entry_is, history_long, history_pointer, history_rest, history_entries)
