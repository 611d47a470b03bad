-- What the bytes of a slot say, as the reading functions test them.
-- Assumes nothing.
use Prim.Native.Nat.{ℕ, ◌+◌, ◌-◌, ◌*◌, ◌<◌}
use mathlib.Core.Bool.{true, false}
use mathlib.Core.List.{List, []}
use mathlib.Core.Path.{◌≡◌, ap, ◌∙◌}
use native.Mathlib.Omega.{arith}
use lib.ListN.{length, get_or, take, drop, length-take}
use borrow.Author.Tests.{ne_eqb}
use Rattle.pour.proofs.StrideLaws.{each_at, piece_byte, piece_part}
use Rattle.rules.specs.Card.{free, held}
use Rattle.rules.specs.Store.{value_bytes, value_type}
use Rattle.slots.specs.Slots.{slot_in, slots, is_held}

module _ (a : List ℕ) (k : ℕ) (h : k < 64) where
  byte : (i : ℕ) → i < 260 → get_or (take 260 (drop (k * 260) a)) i 0 ≡ get_or a (k * 260 + i) 0
  byte i = piece_byte 260 (k * 260) a i

  live : get_or (take 260 (drop (k * 260) a)) 0 0 ≡ get_or a (k * 260) 0
  live = let e : k * 260 + 0 ≡ k * 260 = omega arith in byte 0 (omega arith) ∙ ap (λ (j : ℕ). get_or a j 0) e

  module _ (f : get_or a (k * 260) 0 ≡ 0) where
    free_at : get_or (slots a) k free ≡ free
    unfolding slots slot_in
    free_at = each_at slot_in 64 260 a k free h ∙ simp (live, f)

    pub free_held : false ≡ is_held (get_or (slots a) k free)
    unfolding is_held
    free_held = rw free_at

    pub free_type : 0 ≡ value_type (get_or (slots a) k free)
    unfolding value_type
    free_type = rw free_at

    pub free_value : [] ≡ value_bytes (get_or (slots a) k free)
    unfolding value_bytes
    free_value = rw free_at

  module _ (f : get_or a (k * 260) 0 ≡ 0 → ⊥) where
    held_at : get_or (slots a) k free ≡ held (get_or a (k * 260 + 1) 0) (take (get_or a (k * 260 + 2) 0) (drop 4 (take 260 (drop (k * 260) a))))
    unfolding slots slot_in
    held_at = each_at slot_in 64 260 a k free h ∙ simp (live, ne_eqb _ _ f, byte 1 (omega arith), byte 2 (omega arith))

    pub held_held : true ≡ is_held (get_or (slots a) k free)
    unfolding is_held
    held_held = rw held_at

    pub held_type : get_or a (k * 260 + 1) 0 ≡ value_type (get_or (slots a) k free)
    unfolding value_type
    held_type = rw held_at

    pub held_value : (n : ℕ) → n ≡ get_or a (k * 260 + 2) 0 → n < 256 → take (k * 260 + 4 + n - (k * 260 + 4)) (drop (k * 260 + 4) a) ≡ value_bytes (get_or (slots a) k free)
    unfolding value_bytes
    held_value n e l =
        let m : k * 260 + 4 + n - (k * 260 + 4) ≡ n = omega arith in
        rw (held_at, m, ← e, piece_part 260 (k * 260) a 4 n (omega arith))

-- the value of a slot is short
pub short : (a : List ℕ) (at n : ℕ) → n < 256 → length (take (at + n - at) (drop at a)) < 256
short a at n l = simp length-take (omega arith)

pub as_long : {v b : List ℕ} → v ≡ b → length v ≡ length b
as_long e = ap length e

pub ruleset slot_laws = (free_held, free_type, free_value, held_held, held_type, held_value, short, as_long)
