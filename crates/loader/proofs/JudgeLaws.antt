-- The ways through `judge`, in the shape of its needs.
-- Assumes nothing.
use Prim.Native.Nat.{ℕ, ◌+◌, ◌≤◌, ◌<◌}
use mathlib.Core.Bool.{Bool, true}
use mathlib.Core.List.{List, [], ◌∷◌}
use mathlib.Core.Path.{◌≡◌, refl, sym, ◌∙◌}
use native.Mathlib.Omega.{arith}
use native.Mathlib.Numerals.{add-one}
use lib.ListN.{length, get_or, drop, drop_of_length-le}
use lib.Seq.{drop-cons}
use borrow.Author.Tests.{lt-ltb, le-ltb, eq-eqb, ne_eqb}
use Rattle.rules.specs.Page.{page_head}
use Rattle.rules.specs.Loader.{class_fault, classes, or_rejected, judge_by, judge_head, judge}
use Rattle.page.proofs.Spans.{page_stop}
use Rattle.faultless.specs.Clean.{PageClean}
use Rattle.std.specs.Prelude.{Option, Some, None, Result, Ok, Err}
use Rattle.rules.specs.declared.Tlv.{Tlv}
use Rattle.rules.specs.declared.Rejection.{Rejection}
use Rattle.rules.specs.Built.{reject}

-- the classes behind the two of the structure
abbrev pub later : List ℕ
later = 4 ∷ 5 ∷ 6 ∷ 7 ∷ []

-- the later classes from the i-th on come to w
abbrev pub Left : List ℕ → ℕ → ℕ → Result (Unit {0}) Rejection → Type 0
Left s stop i w = judge_by s (drop i later) stop ≡ w

-- classes 2 and 3 alone, and before others
two_accepted : (a b : Option ℕ) (rest : Result (Unit {0}) Rejection) → or_rejected 2 (or_rejected 3 (Ok tt) b) a ≡ Ok tt → or_rejected 2 (or_rejected 3 rest b) a ≡ rest
unfolding or_rejected
two_accepted None None rest x = refl
two_accepted None (Some q) rest x = cc
two_accepted (Some p) None rest x = cc
two_accepted (Some p) (Some q) rest x = cc

two_rejected : (a b : Option ℕ) (rest : Result (Unit {0}) Rejection) (v : Rejection) → or_rejected 2 (or_rejected 3 (Ok tt) b) a ≡ Err v
    → or_rejected 2 (or_rejected 3 rest b) a ≡ Err v
unfolding or_rejected
two_rejected None None rest v x = cc
two_rejected None (Some q) rest v x = x
two_rejected (Some p) None rest v x = x
two_rejected (Some p) (Some q) rest v x = x

module _ (s : List ℕ) where
  pub j_empty : length s ≡ 0 → reject 1 0 ≡ judge s
  unfolding judge
  j_empty h = simp (eq-eqb (length s) 0 h)

  module _ (a : length s ≡ 0 → ⊥) where
    pub j_long : 4096 < length s → reject 1 0 ≡ judge s
    unfolding judge
    j_long h = simp (ne_eqb (length s) 0 a, lt-ltb 4096 (length s) h)

    module _ (b : length s ≤ 4096) (h : Option Tlv) (is : h ≡ page_head s) where
      pub j_past : h ≡ None → reject 2 0 ≡ judge s
      unfolding judge judge_head
      j_past e = simp (ne_eqb (length s) 0 a, le-ltb 4096 (length s) b, sym is ∙ e)

      module _ (v : Tlv) (e : h ≡ Some v) where
        pub j_within : v.stop ≤ length s
        j_within = page_stop s h is v e

        all : judge_by s classes v.stop ≡ judge s
        unfolding judge judge_head
        all = simp (ne_eqb (length s) 0 a, le-ltb 4096 (length s) b, sym is ∙ e)

        pub j_clean : (b : Bool) → (b ≡ true → PageClean s v.stop) → b ≡ true → (Ok tt) ≡ judge s
        unfolding PageClean classes judge_by or_rejected
        j_clean b be bx =
            let none : (class : ℕ) → 2 ≤ class → class_fault s class v.stop ≡ None = be bx in
            sym (simp (none 2 (omega arith), none 3 (omega arith), none 4 (omega arith), none 5 (omega arith), none 6 (omega arith), none 7 (omega arith))) ∙ all

        module _ (j : Result (Unit {0}) Rejection) (f : j ≡ judge_by s (2 ∷ 3 ∷ []) v.stop) where
          pub j_structure : (w : Rejection) → j ≡ Err w → Err w ≡ judge s
          unfolding classes judge_by
          j_structure w x = sym (two_rejected (class_fault s 2 v.stop) (class_fault s 3 v.stop) _ w (sym f ∙ x)) ∙ all

          pub j_start : j ≡ Ok tt → Left s v.stop 0 (judge s)
          unfolding classes judge_by
          j_start x = sym (two_accepted (class_fault s 2 v.stop) (class_fault s 3 v.stop) _ (sym f ∙ x)) ∙ all

module _ (s : List ℕ) (stop i : ℕ) (w : Result (Unit {0}) Rejection) (inv : Left s stop i w) where
  pub j_accepted : 4 ≤ i → Ok tt ≡ w
  unfolding judge_by
  j_accepted h = sym (simp (drop_of_length-le later h)) ∙ inv

  module _ (h : i < 4) (r : Option ℕ) (e : r ≡ class_fault s (get_or later i 0) stop) where
    here : judge_by s (drop i later) stop ≡ or_rejected (get_or later i 0) (judge_by s (drop (i + 1) later) stop) r
    unfolding judge_by
    here = simp (add-one i, drop-cons later i 0 h, sym e)

    pub j_rejected : (p : ℕ) → r ≡ Some p → reject (get_or later i 0) p ≡ w
    unfolding or_rejected
    j_rejected p x = sym (here ∙ simp x) ∙ inv

    pub j_on : r ≡ None → Left s stop (i + 1) w
    unfolding or_rejected
    j_on x = sym (here ∙ simp x) ∙ inv

pub ruleset judge_laws = (j_empty, j_long, j_past, j_within, j_structure, j_start, j_clean, j_accepted, j_rejected, j_on)
