-- The ways through `setting_complaint`. Complaints depend on the known numbers only through which they are.
-- Assumes nothing.
use Prim.Native.Nat.{ℕ, zero, suc, ◌+◌, ◌-◌, ◌≤◌, ◌<◌}
use mathlib.Core.List.{List, [], ◌∷◌}
use mathlib.Core.Path.{◌≡◌, refl, sym, ap, ◌∙◌}
use native.Mathlib.Omega.{arith}
use lib.ListN.{length, get_or, set, take}
use lib.Dec.{eqb}
use Rattle.rules.specs.declared.Complaint.{Complaint}
use Rattle.rules.specs.declared.Complaint.TheVariants.{Nothing}
use Rattle.rules.specs.Bytes.{part, among}
use Rattle.rules.specs.Tlv.{head_at}
use Rattle.rules.specs.Tlvs.{Tlvs, done, past, tlv, tlvs}
use Rattle.rules.specs.Pieces.{Pieces, full, cut, text, variable}
use Rattle.rules.specs.Page.{service}
use Rattle.rules.specs.Card.{Card}
use Rattle.rules.specs.Store.{area, writing_in, writing, worse}
use Rattle.rules.specs.Value.{pieces_of, complaint}
use Rattle.rules.specs.Step.{number_before, setting_complaint}
use Rattle.leaf.proofs.Cases.{both, was}
use Rattle.variable.specs.View.{seen, view}
use Rattle.variable.proofs.ComplaintLaws.{worse_nothing, nothing_worse, worse_assoc}
use Rattle.setting.proofs.RowLaws.{pairs_done, pairs_past, pairs_tlv}
use Rattle.std.specs.Prelude.{Option, None, Some}
use Rattle.rules.specs.declared.Tlv.{Tlv}

complaint_same : (c : Card) (k l : List ℕ) → ((n : ℕ) → among k n ≡ among l n) → (ps : Pieces) → complaint c k ps ≡ complaint c l ps
unfolding complaint
complaint_same c k l e full = refl
complaint_same c k l e cut = refl
complaint_same c k l e (text from to rest) = complaint_same c k l e rest
complaint_same c k l e (variable n rest) = rw (e n, complaint_same c k l e rest)

more_same : (k l : List ℕ) (x : ℕ) → ((n : ℕ) → among k n ≡ among l n) → (n : ℕ) → among (x ∷ k) n ≡ among (x ∷ l) n
unfolding among
more_same k l x e n = rw (e n)

setting_same : (c : Card) (k l : List ℕ) → ((n : ℕ) → among k n ≡ among l n) → (ps : Tlvs) → setting_complaint c k ps ≡ setting_complaint c l ps
unfolding setting_complaint
setting_same c k l e (done p) = refl
setting_same c k l e (past p) = refl
setting_same c k l e (tlv tag at start stop rest) =
    rw (complaint_same c k l e (pieces_of c.run.page tag start stop), setting_same c (number_before c at ∷ k) (number_before c at ∷ l) (more_same k l (number_before c at) e) rest)

-- a number that is written behind the known ones is one more of them
among_written : (met : List ℕ) (k n : ℕ) → k < length met → (m : ℕ) → among (n ∷ take k met) m ≡ among (take (suc k) (set met k n)) m
unfolding among
among_written [] k n h m = absurd (omega arith)
among_written (x ∷ met) zero n h m = refl
among_written (x ∷ met) (suc k) n h m =
    both (eqb m x)
    (λ t. both (eqb m n) (λ u. simp (t, u)) (λ u. simp (t, u)))
    (λ t. simp t (among_written met k n (omega arith) m))

among_next : (met : List ℕ) (k n : ℕ) → k < length met → (m : ℕ) → among (n ∷ take k met) m ≡ among (take (k + 1) (set met k n)) m
among_next met k n h m = let s : k + 1 ≡ suc k = omega arith in rw s (among_written met k n h m)

pub part_start : (s : List ℕ) (n : ℕ) → part s 0 n ≡ take n s
unfolding part
part_start s n = let z : n - 0 ≡ n = omega arith in rw z

pub pair_complaint_is : (c : Card) (k l : List ℕ) (ps : Pieces) (a b o r x w : Complaint) → a ≡ x → k ≡ l → b ≡ complaint c k ps → o ≡ worse a b → r ≡ worse w o → r ≡ worse w (worse x (complaint c l ps))
pair_complaint_is c k l ps a b o r x w e f g h i = i ∙ ap (worse w) (h ∙ rw (e, g, f))

module _ (page env temp perm : List ℕ) (start stop : ℕ) where
  abbrev c : Card
  c = view page env temp perm

  pub setting_start : (met : List ℕ) → worse Nothing (setting_complaint c (take 0 met) (tlvs 1 page start stop)) ≡ setting_complaint c [] (tlvs 1 page start stop)
  setting_start met = worse_nothing _

  module _ (met : List ℕ) (count at : ℕ) (worst : Complaint) (inv : worse worst (setting_complaint c (take count met) (tlvs 1 page at stop)) ≡ setting_complaint c [] (tlvs 1 page start stop)) where
    pub setting_done : stop - at ≤ 1 → worst ≡ setting_complaint c [] (tlvs 1 page start stop)
    unfolding setting_complaint
    setting_done h = sym (nothing_worse worst) ∙ (rw (pairs_done page at stop h) at inv)

    module _ (h : 1 < stop - at) (r : Option Tlv) (is : r ≡ head_at page (at + 1) stop) where
      pub setting_past : r ≡ None → worst ≡ setting_complaint c [] (tlvs 1 page start stop)
      unfolding setting_complaint
      setting_past x = sym (nothing_worse worst) ∙ (rw (pairs_past page at stop h (was is x)) at inv)

      pub setting_pair : (v : Tlv) → r ≡ Some v → count < length met → (w : Complaint) → w ≡ worse worst (worse (writing_in (service page) (area (get_or page at 0))) (complaint c (part met 0 count) (pieces_of page v.tag v.start v.stop))) → worse w (setting_complaint c (take (count + 1) (set met count (get_or page at 0))) (tlvs 1 page v.stop stop)) ≡ setting_complaint c [] (tlvs 1 page start stop)
      unfolding setting_complaint writing number_before view seen
      setting_pair v x l w f =
          let z : at + 1 - 1 ≡ at = omega arith in
          rw (f, part_start met count) (worse_assoc worst _ _ ∙ (rw (pairs_tlv page at stop h (was is x), z, setting_same c (get_or page at 0 ∷ take count met) (take (count + 1) (set met count (get_or page at 0))) (among_next met count (get_or page at 0) l) (tlvs 1 page v.stop stop)) at inv))

pub ruleset setting_laws = (setting_start, setting_done, setting_past)
