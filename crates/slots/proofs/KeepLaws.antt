-- What is left of an area after a page: nothing, or what a list has.
-- Assumes nothing.
use Prim.Native.Nat.{ℕ, zero, suc, ◌+◌, ◌-◌, ◌*◌, ◌≤◌, ◌<◌}
use mathlib.Core.Bool.{Bool, true, false, cond}
use mathlib.Core.List.{List, [], ◌∷◌, ◌++◌, append-nil, append_assoc}
use mathlib.Core.Path.{◌≡◌, refl, sym, ap, ◌∙◌}
use native.Mathlib.Numerals.{add-one}
use native.Mathlib.Omega.{arith}
use lib.ListN.{length, get_or, set, take, drop, replicate, length-take, length-drop, length-replicate, drop_of_length-le}
use lib.Seq.{take_all, take-suc-set, drop-set-lt, drop-cons, set-get_or}
use Rattle.pour.specs.Pour.{blank, poured}
use Rattle.pour.specs.Stride.{all}
use Rattle.pour.proofs.PadLaws.{zeros_blank}
use Rattle.pour.proofs.StrideLaws.{each_blank}
use Rattle.rules.specs.Bytes.{among}
use Rattle.rules.specs.Card.{Slot, free}
use Rattle.rules.specs.Store.{value_bytes}
use Rattle.rules.specs.Keep.{cleared, listed}
use Rattle.slots.specs.Slots.{slot_in, slots, laid, tidy_slot, tidy_slots, with_slot, sifted}
use Rattle.slots.proofs.RoomLaws.{sixty_four}
use Rattle.slots.proofs.WriteLaws.{slots_with, tidy_with, length_with, tidy_of}

pub slots_blank : slots (blank 16640) ≡ replicate 64 free
unfolding slots slot_in
slots_blank = each_blank slot_in 64 260

pub tidy_blank : tidy_slots (blank 16640) ≡ true
unfolding tidy_slot all
tidy_blank =
    tidy_of (blank 16640) (length-replicate {A = ℕ} 16640 0)
    (ap all (each_blank tidy_slot 64 260) ∙ ap (λ (t : Bool). all (replicate 64 t)) (zeros_blank 260))

cleared_is : (xs : List Slot) → cleared xs ≡ replicate (length xs) free
unfolding cleared
cleared_is [] = refl
cleared_is (x ∷ xs) = ap (λ (ys : List Slot). free ∷ ys) (cleared_is xs)

module _ (a b : List ℕ) (l : length a ≡ 16640) (e : b ≡ blank (length a)) where
  pub clear_bytes : b ≡ blank 16640
  clear_bytes = e ∙ ap (λ (n : ℕ). blank n) l

  pub clear_slots : slots b ≡ cleared (slots a)
  clear_slots = ap slots clear_bytes ∙ slots_blank ∙ sym (cleared_is (slots a) ∙ ap (λ (n : ℕ). replicate n free) (sixty_four a))

  pub clear_tidy : tidy_slots b ≡ true
  clear_tidy = ap tidy_slots clear_bytes ∙ tidy_blank

module _ (a z : List ℕ) (k : ℕ) (h : k < 64) (l : length a ≡ 16640) where
  pub wipe_at : z ≡ blank (length (take (k * 260 + 260 - k * 260) (drop (k * 260) a))) → take (k * 260) a ++ (z ++ drop (k * 260 + 260 - k * 260) (drop (k * 260) a)) ≡ with_slot a k free
  unfolding with_slot poured laid
  wipe_at e =
      let m : k * 260 + 260 - k * 260 ≡ 260 = omega arith in
      let n : length (take 260 (drop (k * 260) a)) ≡ 260 = simp (length-take, length-drop) (omega arith) in
      let f : z ≡ blank 260 = e ∙ rw (m, n) in
      rw (f, m, length-replicate {A = ℕ} 260 0)

module _ (numbers a : List ℕ) (k : ℕ) (w : List ℕ) (inv : sifted numbers k (64 - k) a ≡ w) where
  pub sift_more : k < 64 → (t : Bool) → t ≡ among numbers (128 + k) → (n : ℕ) → n ≡ k → (b : List ℕ) → b ≡ cond t a (with_slot a n free) → sifted numbers (k + 1) (64 - (k + 1)) b ≡ w
  unfolding sifted
  sift_more h t f n e b g =
      let s : 64 - k ≡ suc (64 - (k + 1)) = omega arith in
      rw (g, f, e) (rw s at inv)

  pub sift_done : 64 ≤ k → a ≡ w
  unfolding sifted
  sift_done h = let s : 64 - k ≡ 0 = omega arith in rw s at inv

-- what the slots are that are kept, slot by slot
abbrev kept : Bool → List ℕ → ℕ → List ℕ
kept t a k = cond t a (with_slot a k free)

module _ (a : List ℕ) (k : ℕ) (l : length a ≡ 16640) (h : k < 64) where
  length_kept : (t : Bool) → length (kept t a k) ≡ 16640
  unfolding value_bytes
  length_kept true = l
  length_kept false = length_with a k free l h (omega arith)

  slots_kept : (t : Bool) → slots (kept t a k) ≡ set (slots a) k (cond t (get_or (slots a) k free) free)
  unfolding value_bytes
  slots_kept true = sym (set-get_or (slots a) k free)
  slots_kept false = slots_with a k free l h (omega arith)

  tidy_kept : (t : Bool) → tidy_slots a ≡ true → tidy_slots (kept t a k) ≡ true
  unfolding value_bytes
  tidy_kept true e = e
  tidy_kept false e = tidy_with a k free l h (omega arith) e

module _ (numbers : List ℕ) where
  sifted_slots : (n k : ℕ) (a : List ℕ) → k + n ≡ 64 → length a ≡ 16640 → slots (sifted numbers k n a) ≡ take k (slots a) ++ listed numbers (128 + k) (drop k (slots a))
  unfolding sifted listed
  sifted_slots zero k a s l =
      let m = sixty_four a in
      sym (rw (take_all k (slots a) (omega arith), drop_of_length-le (slots a) {i = k} (omega arith)) (append-nil (slots a)))
  sifted_slots (suc n) k a s l =
      let t = among numbers (128 + k) in
      let xs = slots a in
      let y = cond t (get_or xs k free) free in
      let m : length xs ≡ 64 = sixty_four a in
      let i : slots (sifted numbers (k + 1) n (kept t a k)) ≡ take (k + 1) (slots (kept t a k)) ++ listed numbers (128 + (k + 1)) (drop (k + 1) (slots (kept t a k))) =
      sifted_slots n (k + 1) (kept t a k) (omega arith) (length_kept a k l (omega arith) t) in
      let q : 128 + (k + 1) ≡ 128 + k + 1 = omega arith in
      i ∙ rw (slots_kept a k l (omega arith) t, q, add-one k, take-suc-set xs k y (omega arith), drop-set-lt (suc k) xs k y (omega arith), drop-cons xs k free (omega arith)) (append_assoc (take k xs) (y ∷ []) (listed numbers (128 + k + 1) (drop (suc k) xs)))

  sifted_tidy : (n k : ℕ) (a : List ℕ) → k + n ≡ 64 → length a ≡ 16640 → tidy_slots a ≡ true → tidy_slots (sifted numbers k n a) ≡ true
  unfolding sifted
  sifted_tidy zero k a s l e = e
  sifted_tidy (suc n) k a s l e =
      let t = among numbers (128 + k) in
      sifted_tidy n (k + 1) (kept t a k) (omega arith) (length_kept a k l (omega arith) t) (tidy_kept a k l (omega arith) t e)

  module _ (a b : List ℕ) (l : length a ≡ 16640) (e : b ≡ sifted numbers 0 64 a) where
    pub keep_slots : slots b ≡ listed numbers 128 (slots a)
    keep_slots = ap slots e ∙ sifted_slots 64 0 a refl l

    pub keep_tidy : tidy_slots a ≡ true → tidy_slots b ≡ true
    keep_tidy t = ap tidy_slots e ∙ sifted_tidy 64 0 a refl l t

pub sift_stays : (a : List ℕ) (k : ℕ) (t : Bool) → t ≡ true → a ≡ cond t a (with_slot a k free)
sift_stays a k t e = rw e

pub sift_goes : (a b : List ℕ) (k : ℕ) (t : Bool) → t ≡ false → b ≡ with_slot a k free → b ≡ cond t a (with_slot a k free)
sift_goes a b k t e f = rw e f

pub ruleset keep_laws = (clear_bytes, clear_slots, clear_tidy, wipe_at, sift_more, sift_done, keep_slots, keep_tidy, sift_stays, sift_goes)
