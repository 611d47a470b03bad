-- Bytes compared one piece after another, and the ways through `pass` and `is_value`.
-- Assumes nothing.
use Prim.Native.Nat.{ℕ, ◌+◌, ◌-◌, ◌≤◌, ◌<◌}
use mathlib.Core.Bool.{Bool, true, false, cond}
use mathlib.Core.List.{List, [], ◌∷◌, ◌++◌}
use mathlib.Core.Path.{◌≡◌, refl, sym, ◌∙◌}
use native.Mathlib.Omega.{arith}
use lib.ListN.{length, take, drop, length-take, length-drop, drop_of_length-le}
use lib.Seq.{drop-cons, drop-drop}
use lib.Dec.{ltb, eqb}
use borrow.Author.Tests.{ltb-true, eq-eqb, ne_eqb}
use Rattle.rules.specs.declared.Pair.{Pair}
use Rattle.rules.specs.declared.Pair.TheVariants.{Text, Number, Broken}
use Rattle.rules.specs.Bytes.{same, part}
use Rattle.rules.specs.Store.{read, value_bytes}
use Rattle.rules.specs.Value.{joined}
use Rattle.leaf.proofs.Cases.{both, tests, was}
use Rattle.leaf.proofs.BytesLaws.{same_length}
use Rattle.variable.specs.View.{seen, view}
use Rattle.piece.specs.Piece.{pieces_from, piece_at}
use Rattle.piece.proofs.PieceLaws.{from_full, from_text, from_variable, from_cut}
use Rattle.equal.specs.Passed.{passed}
use Rattle.std.specs.Prelude.{Option, Some, None}

same_front : (v rest b : List ℕ) → same (v ++ rest) b ≡ cond (same v (take (length v) b)) (same rest (drop (length v) b)) false
unfolding same
same_front [] rest b = refl
same_front (x ∷ v) rest [] = refl
same_front (x ∷ v) rest (y ∷ b) = both (eqb x y) (λ t. simp t (same_front v rest b)) (λ t. simp t)

module _ (bytes : List ℕ) (at : ℕ) (v : List ℕ) where
  abbrev front : List ℕ
  front = take (length v) (drop at bytes)

  too_short : length bytes - at < length v → same v front ≡ false
  too_short h =
      same_length v front
      (λ e. let l : length front ≤ length bytes - at = simp (length-take, length-drop) (omega arith) in omega arith)

  pub pass_short : length bytes - at < length v → None ≡ passed bytes at v
  unfolding passed
  pass_short h = simp (too_short h)

  module _ (b : Bool) (e : b ≡ same v (take (at + length v - at) (drop at bytes))) where
    is_front : b ≡ same v front
    is_front = let n : at + length v - at ≡ length v = omega arith in rw n at e

    pub pass_this : b ≡ true → Some (at + length v) ≡ passed bytes at v
    unfolding passed
    pass_this x = simp (was is_front x)

    pub pass_other : b ≡ false → None ≡ passed bytes at v
    unfolding passed
    pass_other x = simp (was is_front x)

  -- what a caller learns of the answer
  went_on : (m : ℕ) → passed bytes at v ≡ Some m → (same v front ≡ true) × (at + length v ≡ m)
  unfolding passed
  went_on m e =
      both (same v front)
      (λ t. let p : passed bytes at v ≡ Some (at + length v) = simp t in let q = sym p ∙ e in (t, cc))
      (λ t. let p : passed bytes at v ≡ None = simp t in let q = sym p ∙ e in let z : ◌≡◌ {A = ℕ} 0 1 = cc in absurd (omega arith))

  stopped : passed bytes at v ≡ None → same v front ≡ false
  unfolding passed
  stopped e =
      both (same v front)
      (λ t. let p : passed bytes at v ≡ Some (at + length v) = simp t in let q = sym p ∙ e in let z : ◌≡◌ {A = ℕ} 0 1 = cc in absurd (omega arith))
      (λ t. t)

  pub pass_within : at ≤ length bytes → (r : Option ℕ) → r ≡ passed bytes at v → (m : ℕ) → r ≡ Some m → m ≤ length bytes
  pass_within h r is m x =
      let w = went_on m (was is x) in
      both (ltb (length bytes - at) (length v))
      (λ t. let f : true ≡ false = sym w.0 ∙ too_short (ltb-true _ _ t) in let z : ◌≡◌ {A = ℕ} 0 1 = cc in absurd (omega arith))
      (λ t. omega tests)

  pub same_on : (rest : List ℕ) (m : ℕ) → passed bytes at v ≡ Some m → same (v ++ rest) (drop at bytes) ≡ same rest (drop m bytes)
  same_on rest m e = let w = went_on m e in same_front v rest (drop at bytes) ∙ simp (w.0, drop-drop (length v) at bytes, w.1)

  pub same_off : (rest : List ℕ) → passed bytes at v ≡ None → same (v ++ rest) (drop at bytes) ≡ false
  same_off rest e = same_front v rest (drop at bytes) ∙ simp (stopped e)

pub ruleset pass_laws = (pass_short, pass_this, pass_other)

same_end : (bytes : List ℕ) (met : ℕ) → met ≤ length bytes → eqb met (length bytes) ≡ same [] (drop met bytes)
unfolding same
same_end bytes met h =
    both (ltb met (length bytes))
    (λ t.
    let k : met < length bytes = ltb-true _ _ t in
    let n : eqb met (length bytes) ≡ false = ne_eqb met (length bytes) (λ e. omega arith) in
    simp (n, drop-cons bytes met 0 k))
    (λ t.
    let e : met ≡ length bytes = omega tests in
    let d : drop met bytes ≡ [] = drop_of_length-le bytes {i = met} (omega arith) in
    simp (eq-eqb met (length bytes) e, d))

module _ (page env temp perm bytes : List ℕ) (list : Bool) (from at end met : ℕ) (inv : same (joined (view page env temp perm) (pieces_from list page at end)) (drop met bytes) ≡ same (joined (view page env temp perm) (pieces_from list page from end)) bytes) where
  abbrev whole : Bool
  whole = same (joined (view page env temp perm) (pieces_from list page from end)) bytes

  pub equal_done : end ≤ at → met ≤ length bytes → eqb met (length bytes) ≡ whole
  unfolding joined
  equal_done h k = same_end bytes met k ∙ (rw (from_full page at end list h) at inv)

  module _ (h : at < end) (p : Pair) (is : p ≡ piece_at list page at end) where
    pub equal_cut : p ≡ Broken → met ≤ length bytes → eqb met (length bytes) ≡ whole
    unfolding joined
    equal_cut x k = same_end bytes met k ∙ (rw (from_cut page at end h list (was is x)) at inv)

    module _ (a b : ℕ) (x : p ≡ Text a b) (v : List ℕ) (e : v ≡ part page a b) (r : Option ℕ) (f : r ≡ passed bytes met v) where
      unfolds : same (v ++ joined (view page env temp perm) (pieces_from list page b end)) (drop met bytes) ≡ whole
      unfolding joined view seen
      unfolds = rw e (rw (from_text page at end h list (was is x)) at inv)

      pub text_on : (m : ℕ) → r ≡ Some m → same (joined (view page env temp perm) (pieces_from list page b end)) (drop m bytes) ≡ whole
      text_on m y = sym (same_on bytes met v _ m (was f y)) ∙ unfolds

      pub text_off : r ≡ None → false ≡ whole
      text_off y = sym (same_off bytes met v _ (was f y)) ∙ unfolds

    module _ (k : end ≤ length page) (n next : ℕ) (x : p ≡ Number n next) (v : List ℕ) (e : v ≡ value_bytes (read (view page env temp perm) n)) (r : Option ℕ) (f : r ≡ passed bytes met v) where
      opens : same (v ++ joined (view page env temp perm) (pieces_from list page next end)) (drop met bytes) ≡ whole
      unfolding joined
      opens = rw e (rw (from_variable page at end h list k (was is x)) at inv)

      pub variable_on : (m : ℕ) → r ≡ Some m → same (joined (view page env temp perm) (pieces_from list page next end)) (drop m bytes) ≡ whole
      variable_on m y = sym (same_on bytes met v _ m (was f y)) ∙ opens

      pub variable_off : r ≡ None → false ≡ whole
      variable_off y = sym (same_off bytes met v _ (was f y)) ∙ opens

pub ruleset equal_laws = (pass_within, equal_done, equal_cut, text_on, text_off, variable_on, variable_off)
