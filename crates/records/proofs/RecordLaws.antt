-- What the bytes of a record say, as the reading functions test them.
-- Assumes nothing.
use Prim.Native.Nat.{ℕ, ◌+◌, ◌-◌, ◌*◌, ◌<◌}
use mathlib.Core.Bool.{true, false}
use mathlib.Core.List.{List, []}
use mathlib.Core.Path.{◌≡◌, ap, ◌∙◌}
use native.Mathlib.Omega.{arith}
use lib.ListN.{length, get_or, take, drop, length-take}
use borrow.Author.Tests.{ne_eqb}
use Rattle.pour.proofs.StrideLaws.{each_at, length_each, piece_byte, piece_part}
use Rattle.rules.specs.Bytes.{part}
use Rattle.rules.specs.Card.{none, stored}
use Rattle.rules.specs.Store.{is_free, value_of, value_bytes, value_type}
use Rattle.records.specs.Records.{record_in, records}

pub sixty_four : (a : List ℕ) → length (records a) ≡ 64
unfolding records
sixty_four a = length_each record_in 64 280 a

module _ (a : List ℕ) (k : ℕ) (h : k < 64) where
  byte : (i : ℕ) → i < 280 → get_or (take 280 (drop (k * 280) a)) i 0 ≡ get_or a (k * 280 + i) 0
  byte i = piece_byte 280 (k * 280) a i

  live : get_or (take 280 (drop (k * 280) a)) 0 0 ≡ get_or a (k * 280) 0
  live = let e : k * 280 + 0 ≡ k * 280 = omega arith in byte 0 (omega arith) ∙ ap (λ (j : ℕ). get_or a j 0) e

  module _ (f : get_or a (k * 280) 0 ≡ 0) where
    pub none_at : get_or (records a) k none ≡ none
    unfolding records record_in
    none_at = each_at record_in 64 280 a k none h ∙ simp (live, f)

    pub none_free : is_free (get_or (records a) k none) ≡ true
    unfolding is_free
    none_free = rw none_at

    pub none_type : 0 ≡ value_type (value_of (get_or (records a) k none))
    unfolding value_type value_of
    none_type = rw none_at

    pub none_value : [] ≡ value_bytes (value_of (get_or (records a) k none))
    unfolding value_bytes value_of
    none_value = rw none_at

  module _ (f : get_or a (k * 280) 0 ≡ 0 → ⊥) where
    pub stored_at : get_or (records a) k none ≡ stored (part (take 280 (drop (k * 280) a)) 8 (8 + get_or a (k * 280 + 2) 0)) (get_or a (k * 280 + 1) 0) (get_or a (k * 280 + 3) 0) (part (take 280 (drop (k * 280) a)) 24 (24 + get_or a (k * 280 + 4) 0))
    unfolding records record_in
    stored_at =
        each_at record_in 64 280 a k none h
        ∙ simp (live, ne_eqb _ _ f, byte 1 (omega arith), byte 2 (omega arith), byte 3 (omega arith), byte 4 (omega arith))

    pub stored_free : is_free (get_or (records a) k none) ≡ false
    unfolding is_free
    stored_free = rw stored_at

    pub stored_type : get_or a (k * 280 + 3) 0 ≡ value_type (value_of (get_or (records a) k none))
    unfolding value_type value_of
    stored_type = rw stored_at

    pub stored_value : (n : ℕ) → n ≡ get_or a (k * 280 + 4) 0 → n < 256 → take (k * 280 + 24 + n - (k * 280 + 24)) (drop (k * 280 + 24) a) ≡ value_bytes (value_of (get_or (records a) k none))
    unfolding value_bytes value_of part
    stored_value n e l =
        let m : k * 280 + 24 + n - (k * 280 + 24) ≡ n = omega arith in
        let o : 24 + n - 24 ≡ n = omega arith in
        rw (stored_at, ← e, m, o, piece_part 280 (k * 280) a 24 n (omega arith))

-- the value of a record is short
pub short : (a : List ℕ) (at n : ℕ) → n < 256 → length (take (at + n - at) (drop at a)) < 256
short a at n l = simp length-take (omega arith)

pub as_long : {v b : List ℕ} → v ≡ b → length v ≡ length b
as_long e = ap length e

pub ruleset record_laws = (none_type, none_value, stored_type, stored_value, short, as_long)
