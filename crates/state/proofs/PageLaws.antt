-- The page that runs, in the shape of what their proofs need.
-- Assumes nothing.
use Prim.Native.Nat.{ℕ, ◌≤◌, ◌<◌}
use mathlib.Core.List.{List}
use mathlib.Core.Path.{◌≡◌, sym}
use native.Mathlib.Omega.{arith}
use lib.ListN.{length, take, length-take}
use lib.Seq.{take_all, length-take-le}

module _ (p : List ℕ) (n : ℕ) (l : length p ≡ 4096) where
  pub page_long : 4096 < n → p ≡ take n p
  page_long h = sym (take_all n p (omega arith))

  pub page_fits : length p ≤ 4096
  page_fits = omega arith

  pub front_fits : length (take n p) ≤ 4096
  front_fits = let e = length-take n p in omega arith

  pub page_counts : n ≤ 4096 → n ≡ length (take n p)
  page_counts h = sym (length-take-le n p (omega arith))

pub ruleset page_laws = (page_long, page_fits, front_fits, page_counts)
