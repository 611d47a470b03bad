-- The ways through `told` and `complaint_from`.
-- Assumes nothing.
use Prim.Native.Nat.{ℕ, ◌≤◌, ◌<◌}
use mathlib.Core.Bool.{Bool, true, false}
use mathlib.Core.List.{List}
use mathlib.Core.Path.{◌≡◌, sym, ◌∙◌}
use lib.ListN.{length}
use Rattle.rules.specs.declared.Pair.{Pair}
use Rattle.rules.specs.declared.Pair.TheVariants.{Text, Number, Broken}
use Rattle.rules.specs.declared.Complaint.{Complaint}
use Rattle.rules.specs.declared.Complaint.TheVariants.{Nothing, Undefined, Secured, Misused}
use Rattle.rules.specs.Bytes.{among}
use Rattle.rules.specs.Card.{Card}
use Rattle.rules.specs.Store.{worse, reading}
use Rattle.rules.specs.Value.{defined, complaint}
use Rattle.leaf.proofs.Cases.{was}
use Rattle.variable.proofs.ComplaintLaws.{worse_nothing, nothing_worse, worse_assoc}
use Rattle.piece.specs.Piece.{pieces_from, piece_at}
use Rattle.piece.proofs.PieceLaws.{from_full, from_text, from_variable, from_cut}

module _ (c : Card) (known : List ℕ) (n : ℕ) (r : Complaint) (is : r ≡ reading c n) where
  pub told_nothing : r ≡ Nothing → Nothing ≡ defined (among known n) (reading c n)
  unfolding defined
  told_nothing x = simp (was is x)

  pub told_secured : r ≡ Secured → Secured ≡ defined (among known n) (reading c n)
  unfolding defined
  told_secured x = simp (was is x)

  pub told_misused : r ≡ Misused → Misused ≡ defined (among known n) (reading c n)
  unfolding defined
  told_misused x = simp (was is x)

  module _ (x : r ≡ Undefined) (k : Bool) (e : k ≡ among known n) where
    pub told_known : k ≡ true → Nothing ≡ defined (among known n) (reading c n)
    unfolding defined
    told_known y = simp (was is x, was e y)

    pub told_undefined : k ≡ false → Undefined ≡ defined (among known n) (reading c n)
    unfolding defined
    told_undefined y = simp (was is x, was e y)

pub ruleset told_laws = (told_nothing, told_secured, told_misused, told_known, told_undefined)

pub complaint_start : (c : Card) (known s : List ℕ) (list : Bool) (from end : ℕ) → worse Nothing (complaint c known (pieces_from list s from end)) ≡ complaint c known (pieces_from list s from end)
complaint_start c known s list from end = worse_nothing _

module _ (c : Card) (known s : List ℕ) (list : Bool) (from at end : ℕ) (worst : Complaint) (inv : worse worst (complaint c known (pieces_from list s at end)) ≡ complaint c known (pieces_from list s from end)) where
  pub complaint_done : end ≤ at → worst ≡ complaint c known (pieces_from list s from end)
  unfolding complaint
  complaint_done h = sym (nothing_worse worst) ∙ (rw (from_full s at end list h) at inv)

  module _ (h : at < end) (p : Pair) (is : p ≡ piece_at list s at end) where
    pub complaint_cut : p ≡ Broken → worst ≡ complaint c known (pieces_from list s from end)
    unfolding complaint
    complaint_cut x = sym (nothing_worse worst) ∙ (rw (from_cut s at end h list (was is x)) at inv)

    pub complaint_text : (a b : ℕ) → p ≡ Text a b → worse worst (complaint c known (pieces_from list s b end)) ≡ complaint c known (pieces_from list s from end)
    unfolding complaint
    complaint_text a b x = rw (from_text s at end h list (was is x)) at inv

    pub complaint_variable : end ≤ length s → (n next : ℕ) → p ≡ Number n next → (one : Complaint) → one ≡ defined (among known n) (reading c n) → (r : Complaint) → r ≡ worse worst one → worse r (complaint c known (pieces_from list s next end)) ≡ complaint c known (pieces_from list s from end)
    unfolding complaint
    complaint_variable k n next x one e r f = rw (f, e) (worse_assoc worst _ _ ∙ (rw (from_variable s at end h list k (was is x)) at inv))

pub ruleset complaint_laws = (complaint_start, complaint_done, complaint_cut, complaint_text, complaint_variable)
