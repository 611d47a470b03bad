-- The ways through `look_at`, in the shape of its needs, and where what is gone into begins.
-- Assumes nothing.
use Prim.Native.Nat.{ℕ, ◌≤◌, ◌<◌}
use mathlib.Core.Bool.{Bool, true, false}
use mathlib.Core.List.{List}
use mathlib.Core.Path.{◌≡◌, refl, sym, subst, ◌∙◌}
use native.Mathlib.Omega.{arith}
use lib.Dec.{eqb, ltb}
use borrow.Author.Tests.{lt-ltb, le-ltb, eq-eqb, ne_eqb}
use Rattle.rules.specs.declared.Body.{Body}
use Rattle.rules.specs.declared.Body.TheVariants.{Inner, Leaf, Short}
use Rattle.rules.specs.declared.Look.{Look}
use Rattle.rules.specs.declared.Look.TheVariants.{Fault, Over, Into}
use Rattle.rules.specs.Grammar.{command_kind}
use Rattle.rules.specs.Shape.{body_of}
use Rattle.rules.specs.Forms.{faulty, beyond_at}
use Rattle.rules.specs.Loader.{shape_look, judged_look, look}
use Rattle.leaf.proofs.Cases.{both}
use Rattle.shape.proofs.BodyLaws.{body_inner}

module _ (b : Body) where
  pub s_short : b ≡ Short → Fault ≡ shape_look b
  unfolding shape_look
  s_short x = simp x

  pub s_leaf : b ≡ Leaf → Over ≡ shape_look b
  unfolding shape_look
  s_leaf x = simp x

  pub s_inner : (kind p : ℕ) → b ≡ Inner kind p → Into kind p ≡ shape_look b
  unfolding shape_look
  s_inner kind p x = simp x

  pub j_short : b ≡ Short → Over ≡ judged_look b
  unfolding judged_look
  j_short x = simp x

  pub j_leaf : b ≡ Leaf → Over ≡ judged_look b
  unfolding judged_look
  j_leaf x = simp x

  module _ (kind p : ℕ) (x : b ≡ Inner kind p) where
    pub j_command : kind ≡ command_kind → Over ≡ judged_look b
    unfolding judged_look
    j_command z = simp (x, eq-eqb kind command_kind z)

    pub j_inner : (kind ≡ command_kind → ⊥) → Into kind p ≡ judged_look b
    unfolding judged_look
    j_inner z = simp (x, ne_eqb kind command_kind z)

module _ (s : List ℕ) (within tag start stop : ℕ) (b : Body) (e : b ≡ body_of s within tag start stop) where
  pub of_shape : (l : Look) → l ≡ shape_look b → l ≡ shape_look (body_of s within tag start stop)
  of_shape l x = rw e at x

  pub of_judged : (l : Look) → l ≡ judged_look b → l ≡ judged_look (body_of s within tag start stop)
  of_judged l x = rw e at x

module _ (s : List ℕ) (class within last cell from at tag start stop : ℕ) where
  pub k_shape : class < 4 → (l : Look) → l ≡ shape_look (body_of s within tag start stop) → l ≡ look s class within last cell from at tag start stop
  unfolding look
  k_shape c l x = x ∙ simp (lt-ltb class 4 c)

  module _ (c : 4 ≤ class) (y : Bool) (ye : y ≡ beyond_at s within tag start stop) where
    module _ (h : class ≡ 7) where
      pub k_beyond : y ≡ true → Fault ≡ look s class within last cell from at tag start stop
      unfolding look faulty
      k_beyond x = simp (le-ltb class 4 c, eq-eqb class 7 h, ne_eqb class 4 (λ z. omega arith), ne_eqb class 5 (λ z. omega arith), ne_eqb class 6 (λ z. omega arith), sym ye ∙ x)

      pub k_within : y ≡ false → (l : Look) → l ≡ judged_look (body_of s within tag start stop) → l ≡ look s class within last cell from at tag start stop
      unfolding look faulty
      k_within x l z = z ∙ simp (le-ltb class 4 c, eq-eqb class 7 h, ne_eqb class 4 (λ z. omega arith), ne_eqb class 5 (λ z. omega arith), ne_eqb class 6 (λ z. omega arith), sym ye ∙ x)

    module _ (f : Bool) (fe : f ≡ faulty s class within last cell from at tag start stop) where
      pub k_fault : f ≡ true → Fault ≡ look s class within last cell from at tag start stop
      unfolding look
      k_fault x = simp (le-ltb class 4 c, sym fe ∙ x)

      module _ (fx : f ≡ false) where
        pub k_over : y ≡ true → Over ≡ look s class within last cell from at tag start stop
        unfolding look
        k_over x = simp (le-ltb class 4 c, sym fe ∙ fx, sym ye ∙ x)

        pub k_judged : y ≡ false → (l : Look) → l ≡ judged_look (body_of s within tag start stop) → l ≡ look s class within last cell from at tag start stop
        unfolding look
        k_judged x l z = z ∙ simp (le-ltb class 4 c, sym fe ∙ fx, sym ye ∙ x)

pub ruleset shape_laws = (of_shape, s_short, s_leaf, s_inner)

pub ruleset judged_laws = (of_judged, j_short, j_leaf, j_command, j_inner)

pub ruleset look_laws = (k_shape, k_beyond, k_within, k_fault, k_over, k_judged)

-- class 4 alone asks where a TLV stands
pub look_any : (s : List ℕ) (class within l c m d from at tag start stop : ℕ) → (class ≡ 4 → ⊥)
    → look s class within l c from at tag start stop ≡ look s class within m d from at tag start stop
unfolding look faulty
look_any s class within l c m d from at tag start stop h = simp (ne_eqb class 4 h)

-- what is gone into begins before the value's end
abbrev LookIn : ℕ → Look → Type 0
LookIn stop Fault = Unit {0}
LookIn stop Over = Unit {0}
LookIn stop (Into kind p) = p ≤ stop

shape_in : (stop : ℕ) (b : Body) → ((kind p : ℕ) → b ≡ Inner kind p → p ≤ stop) → LookIn stop (shape_look b)
unfolding shape_look
shape_in stop (Inner kind p) h = h kind p refl
shape_in stop Leaf h = tt
shape_in stop Short h = tt

judged_in : (stop : ℕ) (b : Body) → ((kind p : ℕ) → b ≡ Inner kind p → p ≤ stop) → LookIn stop (judged_look b)
unfolding judged_look
judged_in stop (Inner kind p) h = both (eqb kind command_kind) (λ t. simp t tt) (λ t. simp t (h kind p refl))
judged_in stop Leaf h = tt
judged_in stop Short h = tt

look_in : (s : List ℕ) (class within last cell from at tag start stop : ℕ) → start ≤ stop → LookIn stop (look s class within last cell from at tag start stop)
unfolding look
look_in s class within last cell from at tag start stop h =
    both (ltb class 4) (λ t. simp t (shape_in stop (body_of s within tag start stop) (λ kind p e. body_inner s within tag start stop h e))) (λ t.
    both (faulty s class within last cell from at tag start stop) (λ t2. simp (t, t2) tt) (λ t2.
    both (beyond_at s within tag start stop) (λ t3. simp (t, t2, t3) tt)
    (λ t3. simp (t, t2, t3) (judged_in stop (body_of s within tag start stop) (λ kind p e. body_inner s within tag start stop h e)))))

pub look_into : (s : List ℕ) (class within last cell from at tag start stop : ℕ) {kind p : ℕ} → start ≤ stop → look s class within last cell from at tag start stop ≡ Into kind p → p ≤ stop
look_into s class within last cell from at tag start stop h e = subst (LookIn stop) e (look_in s class within last cell from at tag start stop h)
