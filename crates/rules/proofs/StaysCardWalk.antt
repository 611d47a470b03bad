-- What it says of a TLV that no class of the loader found a fault.
-- Assumes nothing.
use mathlib.Core.Path.{◌≡◌, refl, sym, ◌∙◌}
use mathlib.Core.Bool.{Bool, true, false, cond, true≢false}
use mathlib.Core.List.{List}
use Prim.Native.Nat.{ℕ, suc}
use native.Mathlib.Omega.{arith}
use lib.Dec.{eqb}
use Rattle.rules.specs.Tlvs.{Tlvs, past, tlv, tlvs}
use Rattle.rules.specs.Grammar.{cell_of, gap_of, lacks, command_kind}
use Rattle.rules.specs.Shape.{body_of}
use Rattle.rules.specs.Forms.{out_of_place, bad_anchor, too_big, beyond_at, faulty}
use Rattle.rules.specs.Loader.{shape_look, judged_look, look, or_then, lacking, goes, row_fault, walk}
use Rattle.rules.specs.declared.Body.{Body}
use Rattle.rules.specs.declared.Body.TheVariants.{Inner, Leaf, Short}
use Rattle.rules.specs.declared.Look.TheVariants.{Fault, Over}
use Rattle.rules.proofs.Choices.{both}
use Rattle.std.specs.Prelude.{Option, Some, None}

pub not_fine : (p : ℕ) → Some p ≡ None → ⊥
not_fine p e = let z : ◌≡◌ {A = ℕ} 0 1 = cc in omega arith

pub then_fine : (a b : Option ℕ) → or_then a b ≡ None → (a ≡ None) × (b ≡ None)
unfolding or_then
then_fine None b e = (refl, e)
then_fine (Some p) b e = absurd (not_fine p e)

-- no class but the third found a fault in a container
pub record Walked (s : List ℕ) (left kind own from end : ℕ) : Type 0 where
  pub shapes : walk left s 2 kind own from end ≡ None
  pub places : walk left s 4 kind own from end ≡ None
  pub anchors : walk left s 5 kind own from end ≡ None
  pub sizes : walk left s 6 kind own from end ≡ None
  pub forms : walk left s 7 kind own from end ≡ None

-- the same of a row, after the part at the cell `last`
pub record Sound (s : List ℕ) (left within from last : ℕ) (row : Tlvs) : Type 0 where
  pub shapes : row_fault s 2 (λ k o p e. walk left s 2 k o p e) within from last row ≡ None
  pub places : row_fault s 4 (λ k o p e. walk left s 4 k o p e) within from last row ≡ None
  pub anchors : row_fault s 5 (λ k o p e. walk left s 5 k o p e) within from last row ≡ None
  pub sizes : row_fault s 6 (λ k o p e. walk left s 6 k o p e) within from last row ≡ None
  pub forms : row_fault s 7 (λ k o p e. walk left s 7 k o p e) within from last row ≡ None

-- a value is not too short, and what is said of a container holds of what it holds
abbrev pub Inside : (ℕ → ℕ → Type 0) → Body → Type 0
Inside P (Inner kind p) = P kind p
Inside P Leaf = Unit {0}
Inside P Short = ⊥

-- the same of a TLV
pub record Proper (s : List ℕ) (left within from last tag at start stop : ℕ) : Type 0 where
  pub placed : out_of_place s last (cell_of within tag) tag start stop ≡ false
  pub named : bad_anchor s at tag start stop ≡ false
  pub sized : too_big s within from at tag start stop ≡ false
  pub into : Inside (λ kind p. eqb kind command_kind ≡ false → Walked s left kind at p stop) (body_of s within tag start stop)

pub walked_row : (s : List ℕ) (left kind own from end : ℕ) → Walked s (suc left) kind own from end → Sound s left kind from 0 (tlvs (gap_of kind) s from end) × (lacks kind end (tlvs (gap_of kind) s from end) ≡ false)
unfolding walk lacking
walked_row s left kind own from end w =
    both (lacks kind end (tlvs (gap_of kind) s from end))
    (λ t. absurd (not_fine own (rw t at w.places)))
    (λ t. (record { shapes = w.shapes; places = rw t at w.places; anchors = w.anchors; sizes = w.sizes; forms = w.forms }, t))

-- each class at one TLV
abbrev Judging : (ℕ → ℕ → Type 0) → Body → Type 0
Judging P (Inner kind p) = eqb kind command_kind ≡ false → P kind p
Judging P Leaf = Unit {0}
Judging P Short = Unit {0}

module _ (below : ℕ → ℕ → ℕ → ℕ → Option ℕ) (at stop : ℕ) (rest : Option ℕ) where
  shape_fine : (b : Body) → goes below at stop rest (shape_look b) ≡ None → Inside (λ kind p. below kind at p stop ≡ None) b × (rest ≡ None)
  unfolding goes shape_look
  shape_fine Short e = absurd (not_fine at e)
  shape_fine Leaf e = (tt, e)
  shape_fine (Inner kind p) e = then_fine (below kind at p stop) rest e

  into_fine : (b : Body) → goes below at stop rest (judged_look b) ≡ None → Judging (λ kind p. below kind at p stop ≡ None) b × (rest ≡ None)
  unfolding goes judged_look
  into_fine Short e = (tt, e)
  into_fine Leaf e = (tt, e)
  into_fine (Inner kind p) e =
      both (eqb kind command_kind)
      (λ t. (λ c. absurd (true≢false (sym t ∙ c)), rw t at e))
      (λ t. let k = then_fine (below kind at p stop) rest (rw t at e) in (λ c. k.0, k.1))

  judged_fine : (fault beyond : Bool) (b : Body) → goes below at stop rest (cond fault Fault (cond beyond Over (judged_look b))) ≡ None →
      (fault ≡ false) × (rest ≡ None) × (beyond ≡ false → Judging (λ kind p. below kind at p stop ≡ None) b)
  unfolding goes
  judged_fine true beyond b e = absurd (not_fine at e)
  judged_fine false true b e = (refl, e, λ c. absurd (true≢false c))
  judged_fine false false b e = let k = into_fine b e in (refl, k.1, λ c. k.0)

module _ (s : List ℕ) (left at stop : ℕ) where
  all_classes : (b : Body) → Inside (λ kind p. walk left s 2 kind at p stop ≡ None) b → Judging (λ kind p. walk left s 4 kind at p stop ≡ None) b →
      Judging (λ kind p. walk left s 5 kind at p stop ≡ None) b → Judging (λ kind p. walk left s 6 kind at p stop ≡ None) b → Judging (λ kind p. walk left s 7 kind at p stop ≡ None) b →
      Inside (λ kind p. eqb kind command_kind ≡ false → Walked s left kind at p stop) b
  all_classes (Inner kind p) k2 k4 k5 k6 k7 = λ c. record { shapes = k2; places = k4 c; anchors = k5 c; sizes = k6 c; forms = k7 c }
  all_classes Leaf k2 k4 k5 k6 k7 = tt
  all_classes Short k2 k4 k5 k6 k7 = k2

pub sound_tlv : (s : List ℕ) (left within from last tag at start stop : ℕ) (rest : Tlvs) → Sound s left within from last (tlv tag at start stop rest) →
    Proper s left within from last tag at start stop × Sound s left within from (cell_of within tag) rest
unfolding row_fault look faulty
sound_tlv s left within from last tag at start stop rest h =
    let b = body_of s within tag start stop in
    let beyond = beyond_at s within tag start stop in
    let k2 = shape_fine _ at stop _ b h.shapes in
    let k4 = judged_fine _ at stop _ (out_of_place s last (cell_of within tag) tag start stop) beyond b h.places in
    let k5 = judged_fine _ at stop _ (bad_anchor s at tag start stop) beyond b h.anchors in
    let k6 = judged_fine _ at stop _ (too_big s within from at tag start stop) beyond b h.sizes in
    let k7 = judged_fine _ at stop _ beyond beyond b h.forms in (
      record {
        placed = k4.0;
        named = k5.0;
        sized = k6.0;
        into = all_classes s left at stop b k2.0 (k4.2 k7.0) (k5.2 k7.0) (k6.2 k7.0) (k7.2 k7.0);
      },
      record { shapes = k2.1; places = k4.1; anchors = k5.1; sizes = k6.1; forms = k7.1 },
    )

pub never_past : (s : List ℕ) (left within from last p : ℕ) → Sound s left within from last (past p) → ⊥
unfolding row_fault
never_past s left within from last p h = not_fine p h.shapes
