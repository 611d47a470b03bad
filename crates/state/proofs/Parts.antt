-- Canonical form of the page that runs.
-- Assumes nothing.
use Prim.Native.Nat.{ℕ, ◌≤◌}
use mathlib.Core.Bool.{true}
use mathlib.Core.List.{List}
use mathlib.Core.Path.{◌≡◌, refl}
use native.Mathlib.Omega.{arith}
use lib.ListN.{length, drop, length-replicate}
use borrow.Author.Tests.{eq-eqb, le-leb}
use Rattle.pour.specs.Pour.{blank, zeros}
use Rattle.pour.proofs.PadLaws.{zeros_blank}
use Rattle.state.specs.State.{tidy_page}

module _ (p : List ℕ) where
  pub page_tidy : (n : ℕ) → length p ≡ 4096 → n ≤ 4096 → zeros (drop n p) ≡ true → tidy_page p n ≡ true
  unfolding tidy_page
  page_tidy n l h z = simp (eq-eqb _ _ l, le-leb _ _ h, z) refl

pub blank_page : tidy_page (blank 4096) 0 ≡ true
blank_page = page_tidy (blank 4096) 0 (length-replicate {A = ℕ} 4096 0) (omega arith) (zeros_blank 4096)
