-- The page, the areas and the short texts, in the shape of what their proofs need.
-- Assumes nothing.
use Prim.Native.Nat.{ℕ, ◌-◌, ◌≤◌, ◌<◌}
use mathlib.Core.Bool.{Bool, false}
use mathlib.Core.List.{List}
use mathlib.Core.Path.{◌≡◌, sym, ap, ◌∙◌}
use native.Mathlib.Omega.{arith}
use lib.ListN.{length, take, drop, length-drop}
use lib.Seq.{take_all}
use lib.Dec.{eqb}
use borrow.Author.Tests.{eq-eqb, le-leb, lt-leb}
use Rattle.pour.specs.Pour.{zeros}
use Rattle.pour.proofs.StrideLaws.{false_both}
use Rattle.state.specs.State.{tidy_page}

module _ (p : List ℕ) (n : ℕ) where
  pub page_over : 4096 < n → false ≡ tidy_page p n
  unfolding tidy_page
  page_over h = sym (rw (lt-leb n 4096 h) (false_both (eqb (length p) 4096)))

  pub page_rest : n ≤ 4096 → length p ≡ 4096 → (r : Bool) → r ≡ zeros (take (4096 - n) (drop n p)) → r ≡ tidy_page p n
  unfolding tidy_page
  page_rest h l r e =
      let d : length (drop n p) ≤ 4096 - n = simp length-drop (omega arith) in
      e ∙ ap zeros (take_all (4096 - n) (drop n p) d) ∙ sym (simp (eq-eqb _ _ l, le-leb _ _ h))

pub ruleset page_laws = (page_over, page_rest)
