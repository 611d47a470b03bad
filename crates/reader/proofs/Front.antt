-- A TLV of a container is read off the bytes before the container's end alone.
-- Assumes nothing.
use Prim.Native.Nat.{ℕ, ◌+◌, ◌-◌, ◌≤◌}
use mathlib.Core.List.{List}
use mathlib.Core.Path.{◌≡◌, sym}
use lib.ListN.{length, take}
use lib.Seq.{get_or-take, length-take-le}
use lib.Dec.{ltb, leb}
use Rattle.rules.specs.Tlv.{length_at, head_at}
use Rattle.leaf.proofs.Cases.{both, tests}

module _ (s : List ℕ) (at end : ℕ) where
  length_front : length_at (take end s) at end ≡ length_at s at end
  unfolding length_at
  length_front =
      both (leb end at) (λ t. simp t) (λ t.
      both (ltb (end - at) 2) (λ t2. both (ltb (end - at) 3) (λ t3. simp (t, t2, t3, get_or-take end s at 0 (omega tests))) (λ t3. absurd (omega tests))) (λ t2.
      both (ltb (end - at) 3) (λ t3. simp (t, t2, t3, get_or-take end s at 0 (omega tests), get_or-take end s (at + 1) 0 (omega tests)))
      (λ t3. simp (t, t2, t3, get_or-take end s at 0 (omega tests), get_or-take end s (at + 1) 0 (omega tests), get_or-take end s (at + 2) 0 (omega tests)))))

module _ (s : List ℕ) (at end : ℕ) where
  pub front_end : end ≤ length s → end ≡ length (take end s)
  front_end h = sym (length-take-le end s h)

  pub head_front : end ≤ length s → head_at (take end s) at (length (take end s)) ≡ head_at s at end
  unfolding head_at
  head_front h =
      rw (length-take-le end s h)
      (both (leb end at) (λ t. simp t) (λ t. simp (t, get_or-take end s at 0 (omega tests), length_front s (at + 1) end)))

pub ruleset front_laws = (front_end, head_front)
