-- Where class 3 finds no fault, class 2 finds none inside the page; and the ways through `class_fault` and `structure`, in the shape of their needs.
-- Assumes nothing.
use Prim.Native.Nat.{ℕ, zero, suc}
use mathlib.Core.List.{List, [], ◌∷◌}
use mathlib.Core.Path.{◌≡◌, refl, sym, ◌∙◌}
use Rattle.rules.specs.declared.Look.{Look}
use Rattle.rules.specs.declared.Look.TheVariants.{Fault, Over, Into}
use Rattle.rules.specs.Tlvs.{Tlvs, done, past, tlv, tlvs}
use Rattle.rules.specs.Grammar.{cell_of, gap_of, whole_kind}
use Rattle.rules.specs.Loader.{look, or_then, floor, lacking, goes, row_fault, walk, after, class_fault, or_rejected, judge_by}
use Rattle.std.specs.Prelude.{Option, Some, None, Ok}
use Rattle.rules.specs.Built.{reject}

-- nothing is found
abbrev Nowhere : Option ℕ → Type 0
Nowhere None = Unit {0}
Nowhere (Some p) = ⊥

none_eq : (f : Option ℕ) → Nowhere f → f ≡ None
none_eq None n = refl
none_eq (Some p) n = absurd n

eq_none : (f : Option ℕ) → f ≡ None → Nowhere f
eq_none f e = rw e tt

first_none : (f g : Option ℕ) → Nowhere (or_then f g) → Nowhere f
unfolding or_then
first_none None g n = tt
first_none (Some p) g n = n

or_none : (f g rest on : Option ℕ) → (Nowhere f → Nowhere g) → (Nowhere rest → Nowhere on) → Nowhere (or_then f rest) → Nowhere (or_then g on)
unfolding or_then
or_none None None rest on b r n = r n
or_none None (Some p) rest on b r n = b tt
or_none (Some q) None rest on b r n = absurd n
or_none (Some q) (Some p) rest on b r n = n

goes_none : (below deep : ℕ → ℕ → ℕ → ℕ → Option ℕ) (at stop : ℕ) (rest on : Option ℕ) (l : Look)
    → ((k o p e : ℕ) → Nowhere (below k o p e) → Nowhere (deep k o p e)) → (Nowhere rest → Nowhere on) → Nowhere (goes below at stop rest l) → Nowhere (goes deep at stop on l)
unfolding goes
goes_none below deep at stop rest on Fault b r n = n
goes_none below deep at stop rest on Over b r n = r n
goes_none below deep at stop rest on (Into kind p) b r n = or_none (below kind at p stop) (deep kind at p stop) rest on (b kind at p stop) r n

row_none : (s : List ℕ) (below deep : ℕ → ℕ → ℕ → ℕ → Option ℕ) → ((k o p e : ℕ) → Nowhere (below k o p e) → Nowhere (deep k o p e))
    → (within from last : ℕ) (row : Tlvs) → Nowhere (row_fault s 3 below within from last row) → Nowhere (row_fault s 2 deep within from last row)
unfolding row_fault look
row_none s below deep b within from last (done p) n = tt
row_none s below deep b within from last (past p) n = n
row_none s below deep b within from last (tlv t at start stop rest) n =
    goes_none below deep at stop
    (row_fault s 3 below within from (cell_of within t) rest)
    (row_fault s 2 deep within from (cell_of within t) rest)
    (look s 3 within last (cell_of within t) from at t start stop)
    b
    (row_none s below deep b within from (cell_of within t) rest)
    n

walk_none : (left : ℕ) (s : List ℕ) (within own from end : ℕ) → Nowhere (walk left s 3 within own from end) → Nowhere (walk left s 2 within own from end)
unfolding walk floor lacking
walk_none zero s within own from end n = tt
walk_none (suc left) s within own from end n =
    row_none s (λ k o p e. walk left s 3 k o p e) (λ k o p e. walk left s 2 k o p e) (λ k o p e. walk_none left s k o p e) within from 0 (tlvs (gap_of within) s from end) n

pub walk_fine : (left : ℕ) (s : List ℕ) (within own from end : ℕ) → walk left s 3 within own from end ≡ None → walk left s 2 within own from end ≡ None
walk_fine left s within own from end x =
    none_eq (walk left s 2 within own from end) (walk_none left s within own from end (eq_none (walk left s 3 within own from end) x))

module _ (s : List ℕ) (class stop : ℕ) (r : Option ℕ) (e : r ≡ walk 8 s class whole_kind 0 0 stop) where
  pub class_at : (p : ℕ) → r ≡ Some p → Some p ≡ class_fault s class stop
  unfolding class_fault or_then
  class_at p x = simp (sym e ∙ x)

  pub class_after : r ≡ None → (q : Option ℕ) → q ≡ after s class stop → q ≡ class_fault s class stop
  unfolding class_fault or_then
  class_after x q f = f ∙ simp (sym e ∙ x)

pub ruleset class_laws = (class_at, class_after)

module _ (s : List ℕ) (stop : ℕ) where
  two_after : class_fault s 3 stop ≡ None → class_fault s 2 stop ≡ after s 2 stop
  unfolding class_fault or_then
  two_after x =
      let n = first_none (walk 8 s 3 whole_kind 0 0 stop) (after s 3 stop) (eq_none (class_fault s 3 stop) x) in
      simp (none_eq (walk 8 s 2 whole_kind 0 0 stop) (walk_none 8 s whole_kind 0 0 stop n))

  module _ (f : Option ℕ) (e : f ≡ class_fault s 3 stop) where
    module _ (x : f ≡ None) (a : Option ℕ) (ae : a ≡ after s 2 stop) where
      pub structure_fine : a ≡ None → (Ok tt) ≡ judge_by s (2 ∷ 3 ∷ []) stop
      unfolding judge_by or_rejected
      structure_fine y = simp (two_after (sym e ∙ x), sym ae ∙ y, sym e ∙ x)

      pub structure_after : (p : ℕ) → a ≡ Some p → reject 2 p ≡ judge_by s (2 ∷ 3 ∷ []) stop
      unfolding judge_by or_rejected
      structure_after p y = simp (two_after (sym e ∙ x), sym ae ∙ y)

    module _ (q : ℕ) (x : f ≡ Some q) (g : Option ℕ) (ge : g ≡ class_fault s 2 stop) where
      pub structure_two : (p : ℕ) → g ≡ Some p → reject 2 p ≡ judge_by s (2 ∷ 3 ∷ []) stop
      unfolding judge_by or_rejected
      structure_two p y = simp (sym ge ∙ y)

      pub structure_three : g ≡ None → reject 3 q ≡ judge_by s (2 ∷ 3 ∷ []) stop
      unfolding judge_by or_rejected
      structure_three y = simp (sym ge ∙ y, sym e ∙ x)

pub ruleset structure_laws = (structure_fine, structure_after, structure_two, structure_three)
