-- A run, in the shape of what its proofs need.
-- Assumes nothing.
use Prim.Native.Nat.{ℕ, suc, ◌≤◌, ◌<◌}
use mathlib.Core.Bool.{Bool, true, false, cond}
use mathlib.Core.List.{List, [], ◌∷◌}
use mathlib.Core.Path.{◌≡◌, refl, sym, ◌∙◌}
use native.Mathlib.Omega.{arith}
use lib.ListN.{length, drop, length-take, length-drop}
use lib.Dec.{eqb}
use borrow.Author.Tests.{eq-eqb, ne_eqb, le-leb, lt-leb, lt-ltb, le-ltb, not-true, not-false}
use Rattle.rules.specs.Page.{code_at}
use Rattle.rules.specs.IsCard.{within, is_open, wanted_fine}
use Rattle.word.specs.Word.{word_in, is_marked, guard_of, hand_of}
use Rattle.unit.proofs.Units.{code_tlv}
use Rattle.sound.specs.Sound.{sound_rest, sound_place, sends_in, sound_hand, sound_run}
use Rattle.std.specs.Prelude.{Option, Some}
use Rattle.rules.specs.declared.Tlv.{Tlv}

-- an array has no room for more
pub word_room : (p : List ℕ) (n : ℕ) → length p ≡ suc n → length (word_in p) ≤ n
unfolding word_in
word_room p n l = simp (length-take, length-drop) (omega arith)

wanted_none : (x : List ℕ) → length x ≡ 1 → wanted_fine x ≡ false
unfolding wanted_fine within
wanted_none [] h = absurd (omega arith)
wanted_none (x ∷ []) h = refl
wanted_none (x ∷ y ∷ xs) h = absurd (omega arith)

wanted_some : (x : List ℕ) → (length x ≡ 1 → ⊥) → length x ≤ 65 → wanted_fine x ≡ true
unfolding wanted_fine within
wanted_some [] n h = refl
wanted_some (x ∷ []) n h = absurd (n refl)
wanted_some (x ∷ y ∷ xs) n h = let k : 2 ≤ length (x ∷ y ∷ xs) = omega arith in simp (le-leb _ _ k, le-leb _ _ h)

module _ (w v : List ℕ) (l : length w ≡ 66) (e : v ≡ word_in w) where
  pub wanted_one : length v ≡ 1 → false ≡ wanted_fine (word_in w)
  wanted_one h = rw (← e) (sym (wanted_none v h))

  pub wanted_other : (length v ≡ 1 → ⊥) → true ≡ wanted_fine (word_in w)
  wanted_other h = rw (← e) (sym (wanted_some v h (rw e (word_room w 65 l))))

pub ruleset wanted_laws = (wanted_one, wanted_other)

module _ (s : List ℕ) (unit place : ℕ) (h : Option Tlv) (e : h ≡ code_at s unit place) where
  module _ (v : Tlv) (i : h ≡ Some v) where
    pub sends_start : v.start ≤ v.stop
    sends_start = (code_tlv s unit place (sym e ∙ i)).1

    pub sends_stop : v.stop ≤ length s
    sends_stop = (code_tlv s unit place (sym e ∙ i)).2

module _ (s h : List ℕ) (unit place : ℕ) (u : Bool) (e : u ≡ is_marked h) where
  pub hand_empty : u ≡ false → true ≡ sound_hand s unit place (hand_of h)
  unfolding sound_hand hand_of
  hand_empty i = simp (← e, i)

  module _ (i : u ≡ true) (b : List ℕ) (f : b ≡ word_in (drop 1 h)) where
    pub hand_none : length b ≡ 0 → false ≡ sound_hand s unit place (hand_of h)
    unfolding sound_hand hand_of within
    hand_none n = let k : length b < 1 = omega arith in simp (← e, i, ← f, lt-leb _ _ k)

    pub hand_sends : (length b ≡ 0 → ⊥) → length h ≡ 257 → (r : Bool) → r ≡ sends_in s (code_at s unit place) → r ≡ sound_hand s unit place (hand_of h)
    unfolding sound_hand hand_of within
    hand_sends n l r g =
        let k : 1 ≤ length b = omega arith in
        let m : length b ≤ 255 = rw f (word_room (drop 1 h) 255 (length-drop 1 h ∙ omega arith)) in
        simp (← e, i, ← f, le-leb _ _ k, le-leb _ _ m) g

pub ruleset hand_laws = (hand_empty, hand_none, hand_sends, not-true, not-false)

module _ (s g h w : List ℕ) (unit place : ℕ) where
  pub run_rest : length s ≡ 0 → (r : Bool) → r ≡ sound_rest h w unit place → r ≡ sound_run s g h w unit place
  unfolding sound_run
  run_rest = by_rest s
    where
      by_rest : (t : List ℕ) → length t ≡ 0 → (r : Bool) → r ≡ sound_rest h w unit place → r ≡ sound_run t g h w unit place
      by_rest [] n r f = f
      by_rest (x ∷ xs) n r f = absurd (omega arith)

  module _ (n : length s ≡ 0 → ⊥) (u : Bool) (e : u ≡ is_marked g) where
    run_is : sound_run s g h w unit place ≡ cond (is_open (guard_of g)) (cond (eqb (length (word_in w)) 0) (cond (sound_place s unit place) (sound_hand s unit place (hand_of h)) false) false) false
    unfolding sound_run
    run_is = by_page s n
      where
        by_page : (t : List ℕ) → (length t ≡ 0 → ⊥) → sound_run t g h w unit place ≡ cond (is_open (guard_of g)) (cond (eqb (length (word_in w)) 0) (cond (sound_place t unit place) (sound_hand t unit place (hand_of h)) false) false) false
        by_page [] k = absurd (k refl)
        by_page (x ∷ xs) k = refl

    pub run_guard : u ≡ true → false ≡ sound_run s g h w unit place
    unfolding guard_of is_open
    run_guard i = sym (run_is ∙ simp (← e, i))

    module _ (i : u ≡ false) (v : List ℕ) (f : v ≡ word_in w) where
      pub run_wanted : 0 < length v → false ≡ sound_run s g h w unit place
      unfolding guard_of is_open
      run_wanted j = let k : length v ≡ 0 → ⊥ = λ z. omega arith in sym (run_is ∙ simp (← e, i, ← f, ne_eqb _ _ k))

      module _ (j : length v ≤ 0) (p : Bool) (k : p ≡ sound_place s unit place) where
        run_there : sound_run s g h w unit place ≡ cond p (sound_hand s unit place (hand_of h)) false
        unfolding guard_of is_open
        run_there = let z : length v ≡ 0 = omega arith in run_is ∙ simp (← e, i, ← f, eq-eqb _ _ z, ← k)

        pub run_place : p ≡ false → false ≡ sound_run s g h w unit place
        run_place o = sym (run_there ∙ simp o)

        pub run_hand : p ≡ true → (r : Bool) → r ≡ sound_hand s unit place (hand_of h) → r ≡ sound_run s g h w unit place
        run_hand o r q = q ∙ sym (run_there ∙ simp o)

pub ruleset run_laws = (run_rest, run_guard, run_wanted, run_place, run_hand, not-true, not-false)
