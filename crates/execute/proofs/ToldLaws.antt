-- The ways through the functions that say what is wrong with the numbers of an Execute USAT Command.
-- Assumes nothing.
use Prim.Native.Nat.{ℕ, ◌+◌, ◌≤◌, ◌<◌}
use mathlib.Core.Bool.{Bool, true, false, cond}
use mathlib.Core.List.{List, []}
use mathlib.Core.Path.{◌≡◌, refl, sym, ◌∙◌}
use lib.Dec.{eqb}
use borrow.Author.Tests.{eq-eqb, ne_eqb}
use Rattle.rules.specs.declared.Complaint.{Complaint}
use Rattle.rules.specs.declared.Complaint.TheVariants.{Nothing}
use Rattle.rules.specs.Tlv.{head_at}
use Rattle.rules.specs.Tlvs.{tlvs}
use Rattle.rules.specs.Pieces.{pieces}
use Rattle.rules.specs.Page.{service}
use Rattle.rules.specs.Card.{Card}
use Rattle.rules.specs.Store.{area, writing_in, writing, worse}
use Rattle.rules.specs.Value.{complaint}
use Rattle.rules.specs.Command.{Execute, execute_of, has_general, has_output, general_number, output_number, type_at, simple_tlvs, result_complaint, indicator_complaint, execute_complaint}
use Rattle.leaf.proofs.Cases.{was}
use Rattle.tlv.proofs.Rows.{row_done, row_tlv, row_past}
use Rattle.variable.specs.View.{seen, view}
use Rattle.variable.proofs.ComplaintLaws.{worse_nothing, nothing_worse, worse_assoc}
use Rattle.piece.specs.Piece.{pieces_from}
use Rattle.execute.specs.Told.{general_told, output_told, result_told}
use Rattle.std.specs.Prelude.{Option, None, Some}
use Rattle.rules.specs.declared.Tlv.{Tlv}

module _ (s : List ℕ) (x : Execute) where
  module _ (b : Bool) (is : b ≡ has_general x) where
    pub general_told_lem : b ≡ true → (n : ℕ) → n ≡ general_number s x → (r : Complaint) → r ≡ writing_in (service s) (area n) → r ≡ general_told s x
    unfolding general_told
    general_told_lem y n e r f = simp (was is y, ← e) f

    pub general_absent : b ≡ false → Nothing ≡ general_told s x
    unfolding general_told
    general_absent y = simp (was is y)

  module _ (b : Bool) (is : b ≡ has_output x) where
    pub output_told_lem : b ≡ true → (n : ℕ) → n ≡ output_number s x → (r : Complaint) → r ≡ writing_in (service s) (area n) → r ≡ output_told s x
    unfolding output_told
    output_told_lem y n e r f = simp (was is y, ← e) f

    pub output_absent : b ≡ false → Nothing ≡ output_told s x
    unfolding output_told
    output_absent y = simp (was is y)

  pub result_told_lem : (g o r : Complaint) → g ≡ general_told s x → o ≡ output_told s x → r ≡ worse g o → r ≡ result_told s x
  unfolding result_told
  result_told_lem g o r e f h = h ∙ rw (e, f)

pub ruleset result_laws = (general_told_lem, general_absent, output_told_lem, output_absent, result_told_lem)

-- what is wrong with the result variables is a matter of the page
pub result_page : (c : Card) (x : Execute) → result_complaint c x ≡ result_told c.run.page x
unfolding result_complaint result_told general_told output_told writing
result_page c x = refl

module _ (c : Card) (s : List ℕ) (tag start stop : ℕ) where
  pub indicator_named : tag ≡ 0 → (r : Complaint) → r ≡ complaint c [] (pieces_from false s (start + 1) stop) → r ≡ cond (eqb tag 0) (complaint c [] (pieces true s (start + 1) stop)) Nothing
  unfolding pieces_from
  indicator_named h r e = simp (eq-eqb _ _ h) e

  pub indicator_none : (tag ≡ 0 → ⊥) → Nothing ≡ cond (eqb tag 0) (complaint c [] (pieces true s (start + 1) stop)) Nothing
  indicator_none h = simp (ne_eqb _ _ h)

pub ruleset indicator_laws = (indicator_named, indicator_none)

module _ (page env temp perm : List ℕ) (from end : ℕ) where
  abbrev c : Card
  c = view page env temp perm

  pub simple_start : worse Nothing (indicator_complaint c (tlvs 0 page from end)) ≡ indicator_complaint c (tlvs 0 page from end)
  simple_start = worse_nothing _

  module _ (at : ℕ) (worst : Complaint) (inv : worse worst (indicator_complaint c (tlvs 0 page at end)) ≡ indicator_complaint c (tlvs 0 page from end)) where
    pub simple_done : end ≤ at → worst ≡ indicator_complaint c (tlvs 0 page from end)
    unfolding indicator_complaint
    simple_done h = sym (nothing_worse worst) ∙ (rw (row_done page at end h) at inv)

    module _ (h : at < end) (r : Option Tlv) (is : r ≡ head_at page at end) where
      pub simple_past : r ≡ None → worst ≡ indicator_complaint c (tlvs 0 page from end)
      unfolding indicator_complaint
      simple_past y = sym (nothing_worse worst) ∙ (rw (row_past page at end h (was is y)) at inv)

      pub simple_more : (v : Tlv) → r ≡ Some v → (one : Complaint) → one ≡ cond (eqb v.tag 0) (complaint c [] (pieces true page (v.start + 1) v.stop)) Nothing → (w : Complaint) → w ≡ worse worst one → worse w (indicator_complaint c (tlvs 0 page v.stop end)) ≡ indicator_complaint c (tlvs 0 page from end)
      unfolding indicator_complaint view seen
      simple_more v y one e w f = rw (f, e) (worse_assoc worst _ _ ∙ (rw (row_tlv page at end h (was is y)) at inv))

pub ruleset simple_laws = (simple_start, simple_done, simple_past, simple_more)

pub execute_told : (page env temp perm : List ℕ) (tag start stop at : ℕ) → at ≡ type_at (execute_of page tag start stop) → (a b r : Complaint) → a ≡ result_told page (execute_of page tag start stop) → b ≡ indicator_complaint (view page env temp perm) (tlvs 0 page (at + 3) stop) → r ≡ worse a b → r ≡ execute_complaint (view page env temp perm) (execute_of page tag start stop)
unfolding execute_complaint simple_tlvs view seen execute_of
execute_told page env temp perm tag start stop at e a b r f g h = h ∙ rw (f, g, e, result_page (view page env temp perm) (execute_of page tag start stop))
