-- A slot written in the array is a slot set in the list, and the array stays in canonical form.
-- Assumes nothing.
use Prim.Native.Nat.{ℕ, suc, ◌+◌, ◌-◌, ◌*◌, ◌≤◌, ◌<◌}
use mathlib.Core.Bool.{true}
use mathlib.Core.List.{List, [], ◌∷◌, ◌++◌, append-nil}
use mathlib.Core.Path.{◌≡◌, refl, sym, ap, ◌∙◌}
use native.Mathlib.Omega.{arith}
use lib.ListN.{length, set, take, drop, drop_of_length-le, length-drop, length-replicate}
use lib.Seq.{take_all, take_at, drop_at, drop-drop}
use lib.Dec.{eqb}
use borrow.Author.Tests.{le-leb, eq-eqb}
use Rattle.pour.specs.Pour.{blank, poured, padded}
use Rattle.pour.specs.Stride.{each, all}
use Rattle.pour.proofs.PourLaws.{length_poured}
use Rattle.pour.proofs.PadLaws.{length_padded, take_padded, drop_padded, zeros_blank}
use Rattle.pour.proofs.StrideLaws.{each_poured, all_poured, all_rest}
use Rattle.rules.specs.Card.{Slot, free, held}
use Rattle.rules.specs.Store.{value_bytes}
use Rattle.slots.specs.Slots.{slot_in, slots, laid, tidy_slot, tidy_slots, with_slot}

length_laid : (x : Slot) → length (value_bytes x) ≤ 255 → length (laid x) ≡ 260
unfolding laid value_bytes
length_laid free s = length-replicate {A = ℕ} 260 0
length_laid (held ty b) s = ap (λ (n : ℕ). suc (suc (suc (suc n)))) (length_padded 256 b (omega arith))

in_laid : (x : Slot) → length (value_bytes x) ≤ 255 → slot_in (laid x) ≡ x
unfolding laid slot_in value_bytes
in_laid free s = refl
in_laid (held ty b) s = ap (held ty) (take_padded 256 b)

tidy_laid : (x : Slot) → length (value_bytes x) ≤ 255 → tidy_slot (laid x) ≡ true
unfolding laid tidy_slot value_bytes
tidy_laid free s = zeros_blank 260
tidy_laid (held ty b) s =
    let e : drop (4 + length b) (laid (held ty b)) ≡ blank (256 - length b) = sym (drop-drop (length b) 4 (laid (held ty b))) ∙ drop_padded 256 b in
    simp (le-leb _ _ s, e) (zeros_blank (256 - length b))

module _ (p y z v : List ℕ) (ty : ℕ) (l : length p ≡ 260) (e : y ≡ 1 ∷ ty ∷ length v ∷ 0 ∷ []) where
  pub lay_is : z ≡ padded (length (take 256 (drop 4 (y ++ drop 4 p)))) v → take 4 (y ++ drop 4 p) ++ (z ++ drop 256 (drop 4 (y ++ drop 4 p))) ≡ laid (held ty v)
  unfolding laid
  lay_is f =
      let m : length y ≡ 4 = ap length e in
      let t : take 4 (y ++ drop 4 p) ≡ y = take_at y (drop 4 p) 4 m in
      let d : drop 4 (y ++ drop 4 p) ≡ drop 4 p = drop_at y (drop 4 p) 4 m in
      let n : length (drop 4 p) ≡ 256 = length-drop 4 p ∙ omega arith in
      let g : z ≡ padded 256 v = f ∙ rw (d, take_all 256 (drop 4 p) (omega arith), n) in
      rw (t, d, drop_of_length-le (drop 4 p) {i = 256} (omega arith), g, append-nil (padded 256 v), e)

pub lay_at_is : (a z : List ℕ) (k : ℕ) (x : Slot) → k < 64 → length (value_bytes x) ≤ 255 → z ≡ laid x → take (k * 260) a ++ (z ++ drop (k * 260 + 260 - k * 260) (drop (k * 260) a)) ≡ with_slot a k x
unfolding with_slot poured
lay_at_is a z k x h s e =
    let m : k * 260 + 260 - k * 260 ≡ 260 = omega arith in
    rw (e, m, length_laid x s)

pub tidy_of : (a : List ℕ) → length a ≡ 16640 → all (each tidy_slot 64 260 a) ≡ true → tidy_slots a ≡ true
unfolding tidy_slots
tidy_of a l e = simp (eq-eqb _ _ l) e

-- what is written is seen, and nothing else
module _ (a : List ℕ) (k : ℕ) (x : Slot) (l : length a ≡ 16640) (h : k < 64) (s : length (value_bytes x) ≤ 255) where
  pub slots_with : slots (with_slot a k x) ≡ set (slots a) k x
  unfolding slots with_slot
  slots_with = each_poured slot_in 64 260 a k (laid x) h (length_laid x s) (omega arith) ∙ ap (set (slots a) k) (in_laid x s)

  pub length_with : length (with_slot a k x) ≡ 16640
  unfolding with_slot
  length_with = let m = length_laid x s in length_poured a (k * 260) (laid x) (omega arith) ∙ l

  pub tidy_with : tidy_slots a ≡ true → tidy_slots (with_slot a k x) ≡ true
  unfolding tidy_slots with_slot
  tidy_with t =
      tidy_of (with_slot a k x) length_with
      (all_poured tidy_slot 64 260 a k (laid x) h (length_laid x s) (omega arith) (tidy_laid x s) (all_rest (eqb (length a) 16640) (all (each tidy_slot 64 260 a)) t))

-- the same of a slot with a value, as the code has it
module _ (a b v : List ℕ) (k ty : ℕ) (e : b ≡ with_slot a k (held ty v)) (l : length a ≡ 16640) (h : k < 64) (s : length v ≤ 255) where
  pub write_slots : slots b ≡ set (slots a) k (held ty v)
  unfolding value_bytes
  write_slots = ap slots e ∙ slots_with a k (held ty v) l h s

  pub write_tidy : tidy_slots a ≡ true → tidy_slots b ≡ true
  unfolding value_bytes
  write_tidy t = ap tidy_slots e ∙ tidy_with a k (held ty v) l h s t

pub lay_value_is : (a z v : List ℕ) (k ty : ℕ) → k < 64 → length v ≤ 255 → z ≡ laid (held ty v) → take (k * 260) a ++ (z ++ drop (k * 260 + 260 - k * 260) (drop (k * 260) a)) ≡ with_slot a k (held ty v)
unfolding value_bytes
lay_value_is a z v k ty h s e = lay_at_is a z k (held ty v) h s e

pub ruleset write_laws = (lay_is, lay_value_is, write_slots, write_tidy)
