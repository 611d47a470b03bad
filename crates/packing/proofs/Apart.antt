-- The layout is unambiguous: each part of a packed number can be read off again.
-- Assumes nothing.
use Prim.Native.Nat.{ℕ, ◌/◌, ◌%◌, ◌<◌}
use mathlib.Core.Path.{◌≡◌}
use native.Mathlib.Omega.{arith}
use Rattle.packing.specs.Packed.{laid}

module _ (number kind size high : ℕ) (n : number < 256) (k : kind < 256) (s : size < 65536) where
  pub laid_number : laid number kind size high % 256 ≡ number
  laid_number = omega arith

  pub laid_kind : laid number kind size high / 256 % 256 ≡ kind
  laid_kind = omega arith

  pub laid_size : laid number kind size high / 65536 % 65536 ≡ size
  laid_size = omega arith

  pub laid_high : laid number kind size high / 4294967296 ≡ high
  laid_high = omega arith
