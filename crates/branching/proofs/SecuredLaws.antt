-- The ways through `secured_in`, `case_complaint` and `cases_complaint`.
-- Assumes nothing.
use Prim.Native.Nat.{ℕ, ◌≤◌, ◌<◌}
use mathlib.Core.Bool.{true}
use mathlib.Core.List.{List}
use mathlib.Core.Path.{◌≡◌, sym, ◌∙◌}
use lib.ListN.{get_or}
use borrow.Author.Tests.{lt-ltb, le-ltb, eq-eqb, ne_eqb}
use Rattle.rules.specs.declared.Pair.{Pair}
use Rattle.rules.specs.declared.Pair.TheVariants.{Text, Number, Broken}
use Rattle.rules.specs.declared.Complaint.{Complaint}
use Rattle.rules.specs.declared.Complaint.TheVariants.{Nothing, Misused}
use Rattle.rules.specs.Tlv.{head_at}
use Rattle.rules.specs.Tlvs.{tlvs}
use Rattle.rules.specs.Pieces.{pair_at, pieces}
use Rattle.rules.specs.Page.{service, content_at}
use Rattle.rules.specs.Store.{area, unserved, worse}
use Rattle.rules.specs.Value.{pieces_of}
use Rattle.rules.specs.Step.{case_value, secured_in, case_complaint, cases_complaint}
use Rattle.leaf.proofs.Cases.{was}
use Rattle.tlv.proofs.Rows.{row_done, row_tlv, row_past}
use Rattle.tlv.proofs.PairRows.{pieces_full, pieces_text, pieces_variable, pieces_cut}
use Rattle.variable.proofs.ComplaintLaws.{worse_nothing, nothing_worse, worse_assoc}
use Rattle.std.specs.Prelude.{Option, None, Some}
use Rattle.rules.specs.declared.Tlv.{Tlv}

pub secured_start : (id s : List ℕ) (from end : ℕ) → worse Nothing (secured_in id (pieces true s from end)) ≡ secured_in id (pieces true s from end)
secured_start id s from end = worse_nothing _

module _ (id s : List ℕ) (from at end : ℕ) (worst : Complaint) (inv : worse worst (secured_in id (pieces true s at end)) ≡ secured_in id (pieces true s from end)) where
  pub secured_done : end ≤ at → worst ≡ secured_in id (pieces true s from end)
  unfolding secured_in
  secured_done h = sym (nothing_worse worst) ∙ (rw (pieces_full true s at end h) at inv)

  module _ (h : at < end) (p : Pair) (is : p ≡ pair_at true s at end) where
    pub secured_cut : p ≡ Broken → worst ≡ secured_in id (pieces true s from end)
    unfolding secured_in
    secured_cut x = sym (nothing_worse worst) ∙ (rw (pieces_cut true s at end h (was is x)) at inv)

    pub secured_text : (a b : ℕ) → p ≡ Text a b → worse worst (secured_in id (pieces true s b end)) ≡ secured_in id (pieces true s from end)
    unfolding secured_in
    secured_text a b x = rw (pieces_text true s at end h (was is x)) at inv

    pub secured_variable : (n next : ℕ) → p ≡ Number n next → (one : Complaint) → one ≡ unserved id (area n) → (r : Complaint) → r ≡ worse worst one → worse r (secured_in id (pieces true s next end)) ≡ secured_in id (pieces true s from end)
    unfolding secured_in
    secured_variable n next x one e r f = rw (f, e) (worse_assoc worst _ _ ∙ (rw (pieces_variable true s at end h (was is x)) at inv))

pub ruleset secured_laws = (secured_start, secured_done, secured_cut, secured_text, secured_variable)

module _ (s : List ℕ) (h r : Option Tlv) (is : r ≡ h) where
  pub case_none : r ≡ None → Nothing ≡ case_complaint s h
  unfolding case_complaint
  case_none x = simp (was is x)

  module _ (v : Tlv) (x : r ≡ Some v) where
    module _ (l : v.tag ≡ 0x0D) where
      pub case_first : v.start < v.stop → (c : Complaint) → c ≡ unserved (service s) (area (get_or s v.start 0)) → c ≡ case_complaint s h
      unfolding case_complaint case_value secured_in
      case_first k c e = simp (was is x, eq-eqb _ _ l, lt-ltb _ _ k, nothing_worse) e

      pub case_empty : v.stop ≤ v.start → Misused ≡ case_complaint s h
      unfolding case_complaint
      case_empty k = simp (was is x, eq-eqb _ _ l, le-ltb _ _ k)

    pub case_inline : (v.tag ≡ 0x0D → ⊥) → (p : ℕ) → p ≡ content_at s v.tag v.start v.stop → (c : Complaint) → c ≡ secured_in (service s) (pieces true s p v.stop) → c ≡ case_complaint s h
    unfolding case_complaint case_value pieces_of
    case_inline l p f c e = simp (was is x, ne_eqb _ _ l, ← f) e

pub ruleset case_laws = (case_none, case_first, case_empty, case_inline)

pub cases_start : (s : List ℕ) (from end : ℕ) → worse Nothing (cases_complaint s (tlvs 0 s from end)) ≡ cases_complaint s (tlvs 0 s from end)
cases_start s from end = worse_nothing _

module _ (s : List ℕ) (from at end : ℕ) (worst : Complaint) (inv : worse worst (cases_complaint s (tlvs 0 s at end)) ≡ cases_complaint s (tlvs 0 s from end)) where
  pub cases_done : end ≤ at → worst ≡ cases_complaint s (tlvs 0 s from end)
  unfolding cases_complaint
  cases_done h = sym (nothing_worse worst) ∙ (rw (row_done s at end h) at inv)

  module _ (h : at < end) (p : Option Tlv) (is : p ≡ head_at s at end) where
    pub cases_past : p ≡ None → worst ≡ cases_complaint s (tlvs 0 s from end)
    unfolding cases_complaint
    cases_past x = sym (nothing_worse worst) ∙ (rw (row_past s at end h (was is x)) at inv)

    module _ (v : Tlv) (x : p ≡ Some v) where
      pub cases_case : v.tag ≡ 0x11 → (one : Complaint) → one ≡ case_complaint s (head_at s v.start v.stop) → (r : Complaint) → r ≡ worse worst one → worse r (cases_complaint s (tlvs 0 s v.stop end)) ≡ cases_complaint s (tlvs 0 s from end)
      unfolding cases_complaint
      cases_case y one e r f = rw (f, e) (worse_assoc worst _ _ ∙ (simp (row_tlv s at end h (was is x), eq-eqb _ _ y) at inv))

      pub cases_other : (v.tag ≡ 0x11 → ⊥) → worse worst (cases_complaint s (tlvs 0 s v.stop end)) ≡ cases_complaint s (tlvs 0 s from end)
      unfolding cases_complaint
      cases_other y = simp (row_tlv s at end h (was is x), ne_eqb _ _ y, worse_nothing) at inv

pub ruleset cases_laws = (cases_start, cases_done, cases_past, cases_case, cases_other)
