-- The loader's answer packed: an offset is at most 4,096. Assumes nothing.
use Prim.Native.Nat.{ℕ, ◌+◌, ◌*◌, ◌≤◌}
use mathlib.Core.List.{List}
use mathlib.Core.Path.{◌≡◌, sym, ap, subst, ◌∙◌}
use native.Mathlib.Omega.{arith}
use borrow.Author.Tests.{ltb-false}
use lib.ListN.{length}
use lib.Dec.{eqb, ltb}
use Rattle.rules.specs.Loader.{judge}
use Rattle.rules.proofs.Choices.{both}
use Rattle.rules.proofs.Offsets.{JudgedIn, judge_in}
use Rattle.cabi.specs.Packed.{packed}
use Rattle.std.specs.Prelude.{Result, Ok, Err}
use Rattle.rules.specs.declared.Rejection.{Rejection}

abbrev pub Low : Result (Unit {0}) Rejection → Type 0
Low (Ok u) = Prim.Unit {0}
Low (Err e) = e.place ≤ 4096

lower : (n : ℕ) → n ≤ 4096 → (j : Result (Unit {0}) Rejection) → JudgedIn n j → Low j
lower n l (Ok u) h = tt
lower n l (Err e) h = let k = h.1 in omega arith

pub judge_low : (s : List ℕ) → Low (judge s)
unfolding judge
judge_low s =
    both (eqb (length s) 0) (λ t. simp t (omega arith))
    (λ t. both (ltb 4096 (length s)) (λ u. simp (t, u) (omega arith))
    (λ u. lower (length s) (ltb-false 4096 (length s) u) (judge s) (judge_in s)))

module _ (s : List ℕ) (j : Result (Unit {0}) Rejection) (e : j ≡ judge s) where
  pub pack_none : j ≡ Ok tt → 0 ≡ packed (judge s)
  unfolding packed
  pack_none f = sym (ap packed (sym e ∙ f))

  module _ (v : Rejection) (f : j ≡ Err v) where
    pub pack_low : v.place ≤ 4096
    pack_low = subst Low (sym e ∙ f) (judge_low s)

    pub pack_is : (r : ℕ) → r ≡ v.class + 256 * v.place → r ≡ packed (judge s)
    unfolding packed
    pack_is r g = g ∙ sym (ap packed (sym e ∙ f))

pub ruleset pack_laws = (pack_none, pack_low, pack_is)
