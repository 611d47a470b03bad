-- The ways through `walk`, in the shape of its needs.
-- Assumes nothing.
use Prim.Native.Nat.{ℕ, zero, suc, ◌+◌, ◌-◌, ◌≤◌, ◌<◌}
use mathlib.Core.Bool.{Bool, true, false, cond}
use mathlib.Core.List.{List}
use mathlib.Core.Path.{◌≡◌, refl, sym, ap, ◌∙◌}
use native.Mathlib.Omega.{arith}
use native.Mathlib.Numerals.{sub-one}
use lib.ListN.{length}
use lib.Dec.{eqb}
use borrow.Author.Tests.{eqb-false}
use Rattle.rules.specs.declared.Look.{Look}
use Rattle.rules.specs.declared.Look.TheVariants.{Fault, Over, Into}
use Rattle.rules.specs.Tlv.{head_at}
use Rattle.rules.specs.Tlvs.{Tlvs, done, past, tlv, tlvs}
use Rattle.rules.specs.Grammar.{cell_of, gap_of}
use Rattle.rules.specs.Loader.{look, or_then, floor, lacking, goes, row_fault, walk}
use Rattle.leaf.proofs.Cases.{both}
use Rattle.tlv.proofs.Bounds.{head_tlv}
use Rattle.tlv.proofs.Rows.{tlvs_done, tlvs_tlv, tlvs_past}
use Rattle.classes.proofs.LookLaws.{look_any, look_into}
use Rattle.std.specs.Prelude.{Option, Some, None}
use Rattle.rules.specs.declared.Tlv.{Tlv}

-- a TLV of a row, in its container: what follows is shorter
module _ (s : List ℕ) (gap end at : ℕ) (h : Option Tlv) (is : h ≡ head_at s (at + gap) end) (v : Tlv) (e : h ≡ Some v) where
  pub t_less : gap < end - at → end - v.stop < end - at
  t_less go = let b = head_tlv s (at + gap) end (sym is ∙ e) in omega arith

  pub t_within : v.stop ≤ end
  t_within = let b = head_tlv s (at + gap) end (sym is ∙ e) in omega arith

  pub t_length : end ≤ length s → v.stop ≤ length s
  t_length x = let b = head_tlv s (at + gap) end (sym is ∙ e) in omega arith

  pub t_value : v.start ≤ v.stop
  t_value = let b = head_tlv s (at + gap) end (sym is ∙ e) in omega arith

-- the rest of a row comes to w
abbrev pub Left : List ℕ → ℕ → ℕ → ℕ → ℕ → ℕ → ℕ → ℕ → ℕ → Option ℕ → Type 0
Left s class within from gap end left at last w =
    row_fault s class (λ k o p e. walk (left - 1) s class k o p e) within from last (tlvs gap s at end) ≡ w

more : (left : ℕ) (s : List ℕ) (class within own from end : ℕ) → (left ≡ 0 → ⊥) → walk left s class within own from end ≡ walk (suc (left - 1)) s class within own from end
more zero s class within own from end h = absurd (h refl)
more (suc n) s class within own from end h = simp (sub-one (suc n))

row_any : (s : List ℕ) (class : ℕ) (below : ℕ → ℕ → ℕ → ℕ → Option ℕ) (within from l m : ℕ) → (class ≡ 4 → ⊥) → (row : Tlvs)
    → row_fault s class below within from l row ≡ row_fault s class below within from m row
unfolding row_fault
row_any s class below within from l m h (done p) = refl
row_any s class below within from l m h (past p) = refl
row_any s class below within from l m h (tlv t at start stop rest) =
    ap (goes below at stop (row_fault s class below within from (cell_of within t) rest)) (look_any s class within l (cell_of within t) m (cell_of within t) from at t start stop h)

module _ (s : List ℕ) (class within own from end left : ℕ) where
  pub w_floor : left ≡ 0 → (r : Option ℕ) → r ≡ floor class within from end → r ≡ walk left s class within own from end
  unfolding walk
  w_floor z r e = e ∙ sym (rw z)

  module _ (z : left ≡ 0 → ⊥) (b : Bool) (e : b ≡ lacking class within end (tlvs (gap_of within) s from end)) where
    pub w_lack : b ≡ true → Some own ≡ walk left s class within own from end
    unfolding walk
    w_lack x = sym (more left s class within own from end z ∙ simp (sym e ∙ x))

    pub w_start : b ≡ false → (gap : ℕ) → gap ≡ gap_of within → Left s class within from gap end left from 0 (walk left s class within own from end)
    unfolding walk
    w_start x gap g = sym (more left s class within own from end z ∙ simp (sym e ∙ x, g))

module _ (s : List ℕ) (class within from gap end left at last : ℕ) (w : Option ℕ) (inv : Left s class within from gap end left at last w) where
  pub w_done : end - at ≤ gap → None ≡ w
  unfolding row_fault
  w_done h = sym (simp (tlvs_done gap s at end h)) ∙ inv

  module _ (go : gap < end - at) (h : Option Tlv) (is : h ≡ head_at s (at + gap) end) where
    pub w_past : h ≡ None → Some (at + gap) ≡ w
    unfolding row_fault
    w_past e = sym (simp (tlvs_past gap s at end go (sym is ∙ e))) ∙ inv

    module _ (v : Tlv) (e : h ≡ Some v) where
      module _ (cell : ℕ) (ce : cell ≡ cond (eqb class 4) (cell_of within v.tag) 0) (l : Look) (le : l ≡ look s class within last cell from (at + gap) v.tag v.start v.stop) where
        here : row_fault s class (λ k o p e. walk (left - 1) s class k o p e) within from last (tlvs gap s at end)
            ≡ goes (λ k o p e. walk (left - 1) s class k o p e) (at + gap) v.stop
            (row_fault s class (λ k o p e. walk (left - 1) s class k o p e) within from cell (tlvs gap s v.stop end)) l
        unfolding row_fault
        here =
            both (eqb class 4)
            (λ x. let c : cell_of within v.tag ≡ cell = sym (ce ∙ simp x) in simp (tlvs_tlv gap s at end go (sym is ∙ e), c, sym le))
            (λ x. let h = eqb-false class 4 x in
            let c = look_any s class within last (cell_of within v.tag) last cell from (at + gap) v.tag v.start v.stop h ∙ sym le in
            let r = row_any s class (λ k o p e. walk (left - 1) s class k o p e) within from (cell_of within v.tag) cell h (tlvs gap s v.stop end) in
            simp (tlvs_tlv gap s at end go (sym is ∙ e), c, r))

        pub w_fault : l ≡ Fault → Some (at + gap) ≡ w
        unfolding goes
        w_fault x = sym (here ∙ simp x) ∙ inv

        pub w_over : l ≡ Over → Left s class within from gap end left v.stop cell w
        unfolding goes
        w_over x = sym (here ∙ simp x) ∙ inv

        module _ (kind p : ℕ) (x : l ≡ Into kind p) where
          pub w_in : p ≤ v.stop
          w_in = look_into s class within last cell from (at + gap) v.tag v.start v.stop (t_value s gap end at h is v e) (sym le ∙ x)

          module _ (r : Option ℕ) (re : r ≡ walk (left - 1) s class kind (at + gap) p v.stop) where
            pub w_hit : (q : ℕ) → r ≡ Some q → Some q ≡ w
            unfolding goes or_then
            w_hit q y = sym (here ∙ simp (x, sym re ∙ y)) ∙ inv

            pub w_fine : r ≡ None → Left s class within from gap end left v.stop cell w
            unfolding goes or_then
            w_fine y = sym (here ∙ simp (x, sym re ∙ y)) ∙ inv

pub ruleset walk_laws = (w_floor, w_lack, w_start, w_done, w_past, t_less, t_within, t_length, t_value, w_fault, w_over, w_in, w_hit, w_fine)
