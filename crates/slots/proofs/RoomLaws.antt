-- The room of an area, summed slot by slot, and with one slot replaced.
-- Assumes nothing.
use Prim.Native.Nat.{ℕ, ◌+◌, ◌-◌, ◌≤◌, ◌<◌}
use mathlib.Core.List.{List, [], ◌∷◌}
use mathlib.Core.Path.{◌≡◌, refl, sym, ap, ◌∙◌}
use native.Mathlib.Omega.{arith}
use lib.ListN.{length, get_or, set, drop, drop_of_length-le}
use Rattle.std.specs.List.{sum_by}
use Rattle.std.proofs.lemmas.List.Sums.{sum_by-cons, sum_by-set, get_or-le-sum_by, sum_by-drop_more}
use Rattle.pour.proofs.StrideLaws.{length_each}
use Rattle.rules.specs.Card.{Slot, free}
use Rattle.rules.specs.Store.{value_bytes, room}
use Rattle.slots.specs.Slots.{slot_in, slots}

pub sixty_four : (a : List ℕ) → length (slots a) ≡ 64
unfolding slots
sixty_four a = length_each slot_in 64 260 a

abbrev size : Slot → ℕ
size x = length (value_bytes x)

room_is : (xs : List Slot) → room xs ≡ sum_by size xs
unfolding room
room_is [] = refl
room_is (x ∷ xs) = ap (λ (n : ℕ). size x + n) (room_is xs) ∙ sym (sum_by-cons size x xs)

module _ (a : List ℕ) (k sum : ℕ) (inv : sum + room (drop k (slots a)) ≡ room (slots a)) where
  pub room_more : k < 64 → (n : ℕ) → n ≡ length (value_bytes (get_or (slots a) k free)) → sum + n + room (drop (k + 1) (slots a)) ≡ room (slots a)
  room_more h n e =
      let l = sixty_four a in
      omega (arith, room_is (drop k (slots a)), room_is (drop (k + 1) (slots a)), sum_by-drop_more size (slots a) k free (omega arith))

  pub room_done : 64 ≤ k → sum ≡ room (slots a)
  unfolding room
  room_done h = let l = sixty_four a in omega (arith, ap room (drop_of_length-le (slots a) {i = k} (omega arith)))

module _ (a : List ℕ) (k sum old : ℕ) (h : k < 64) (s : sum ≡ room (slots a)) (o : old ≡ length (value_bytes (get_or (slots a) k free))) where
  pub room_back : old ≤ sum
  room_back = let l = sixty_four a in omega (arith, room_is (slots a), get_or-le-sum_by size (slots a) k free (omega arith))

  pub room_new : (n : ℕ) (x : Slot) → length (value_bytes x) ≡ n → sum - old + n ≡ room (set (slots a) k x)
  room_new n x e =
      let l = sixty_four a in
      omega (arith, room_is (slots a), room_is (set (slots a) k x), get_or-le-sum_by size (slots a) k free (omega arith), sum_by-set size (slots a) k x free (omega arith))

pub ruleset room_laws = (room_more, room_done, room_back, room_new)
