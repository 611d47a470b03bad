-- From the facts that the code's branches give to the tests of a definition, and back.
--     cases      for `search`: rewrites `ltb`, `leb` and `eqb` to `true` or `false` by facts in reach, which `omega` finds
--     tests      for `omega`: reads `ltb a b ≡ true` as `a < b`, and so on
-- Assumes nothing.
use mathlib.Core.Bool.{Bool, true, false}
use mathlib.Core.Path.{◌≡◌, refl, sym, ap, ◌∙◌}
use native.Mathlib.Omega.{arith}
use borrow.Author.Tests.{lt-ltb, le-ltb, le-leb, lt-leb, eq-eqb, ne_eqb, ltb-true, ltb-false, leb-true, leb-false, eqb-true}

pub ruleset cases = (lt-ltb, le-ltb, le-leb, lt-leb, eq-eqb, ne_eqb, arith)

pub ruleset tests = (ltb-true, ltb-false, leb-true, leb-false, eqb-true, arith)

-- a claim by the two values of a test
pub both : {G : Type 0} (t : Bool) → (t ≡ true → G) → (t ≡ false → G) → G
both true f g = f refl
both false f g = g refl

-- what a call answered is what its contract says, and what a match or a test found
pub was : {A : Type 0} {x y z : A} → x ≡ y → x ≡ z → y ≡ z
was p q = sym p ∙ q

-- what a function gives for what a match was told
pub told_as : {A B : Type 0} (f : A → B) {a b : A} {v : B} → a ≡ b → f b ≡ v → v ≡ f a
told_as f e g = sym (ap f e ∙ g)
