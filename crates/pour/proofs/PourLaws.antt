-- A list keeps its length when bytes are poured into it.
-- Assumes nothing.
use Prim.Native.Nat.{ℕ, ◌+◌, ◌≤◌}
use mathlib.Core.List.{List}
use mathlib.Core.Path.{◌≡◌}
use native.Mathlib.Omega.{arith}
use lib.ListN.{length, take, length-append, length-drop}
use lib.Seq.{length-take-le}
use Rattle.pour.specs.Pour.{poured}

module _ (a : List ℕ) (at : ℕ) (b : List ℕ) (fits : at + length b ≤ length a) where
  front : length (take at a) ≡ at
  front = length-take-le at a (omega arith)

  pub length_poured : length (poured a at b) ≡ length a
  unfolding poured
  length_poured = simp (length-append, length-drop) (omega (arith, front))
