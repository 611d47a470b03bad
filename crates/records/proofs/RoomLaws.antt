-- The room of the permanent area, summed record by record, and with one record replaced.
-- Assumes nothing.
use Prim.Native.Nat.{ℕ, ◌+◌, ◌-◌, ◌≤◌, ◌<◌}
use mathlib.Core.List.{List, [], ◌∷◌}
use mathlib.Core.Path.{◌≡◌, refl, sym, ap, ◌∙◌}
use native.Mathlib.Omega.{arith}
use lib.ListN.{length, get_or, set, drop, drop_of_length-le}
use Rattle.std.specs.List.{sum_by}
use Rattle.std.proofs.lemmas.List.Sums.{sum_by-cons, sum_by-set, get_or-le-sum_by, sum_by-drop_more}
use Rattle.rules.specs.Card.{Record, none}
use Rattle.rules.specs.Store.{value_of, value_bytes, record_room}
use Rattle.records.specs.Records.{records}
use Rattle.records.proofs.RecordLaws.{sixty_four}

abbrev size : Record → ℕ
size x = length (value_bytes (value_of x))

room_is : (xs : List Record) → record_room xs ≡ sum_by size xs
unfolding record_room
room_is [] = refl
room_is (x ∷ xs) = ap (λ (n : ℕ). size x + n) (room_is xs) ∙ sym (sum_by-cons size x xs)

module _ (a : List ℕ) (k sum : ℕ) (inv : sum + record_room (drop k (records a)) ≡ record_room (records a)) where
  pub room_more : k < 64 → (n : ℕ) → n ≡ length (value_bytes (value_of (get_or (records a) k none))) → sum + n + record_room (drop (k + 1) (records a)) ≡ record_room (records a)
  room_more h n e =
      let l = sixty_four a in
      omega (arith, room_is (drop k (records a)), room_is (drop (k + 1) (records a)), sum_by-drop_more size (records a) k none (omega arith))

  pub room_done : 64 ≤ k → sum ≡ record_room (records a)
  unfolding record_room
  room_done h = let l = sixty_four a in omega (arith, ap record_room (drop_of_length-le (records a) {i = k} (omega arith)))

module _ (a : List ℕ) (k sum old : ℕ) (h : k < 64) (s : sum ≡ record_room (records a)) (o : old ≡ length (value_bytes (value_of (get_or (records a) k none)))) where
  pub room_back : old ≤ sum
  room_back = let l = sixty_four a in omega (arith, room_is (records a), get_or-le-sum_by size (records a) k none (omega arith))

  pub room_new : (n : ℕ) (x : Record) → length (value_bytes (value_of x)) ≡ n → sum - old + n ≡ record_room (set (records a) k x)
  room_new n x e =
      let l = sixty_four a in
      omega (arith, room_is (records a), room_is (set (records a) k x), get_or-le-sum_by size (records a) k none (omega arith), sum_by-set size (records a) k x none (omega arith))

pub ruleset room_laws = (room_more, room_done, room_back, room_new)
