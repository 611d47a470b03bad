-- Laws of `tlvs`: a row unfolds by one TLV. With these no proof looks at how far `tlvs_up_to` may go.
-- Assumes nothing.
use Prim.Native.Nat.{ℕ, zero, suc, ◌+◌, ◌-◌, ◌≤◌, ◌<◌}
use mathlib.Core.List.{List}
use mathlib.Core.Path.{◌≡◌, refl, ap, ◌∙◌}
use lib.Dec.{leb}
use native.Mathlib.Omega.{arith}
use borrow.Author.Tests.{le-leb, lt-leb, leb-true}
use Rattle.rules.specs.Tlv.{head_at}
use Rattle.rules.specs.Tlvs.{Tlvs, done, past, tlv, row, tlvs_up_to, tlvs}
use Rattle.leaf.proofs.Cases.{both, tests}
use Rattle.tlv.proofs.Bounds.{HeadIn, head_in, head_tlv}
use Rattle.std.specs.Prelude.{Option, Some, None}
use Rattle.rules.specs.declared.Tlv.{Tlv}

-- two ways to go on that agree after the place give the same row
row_same : (k l : ℕ → Tlvs) (at end : ℕ) (h : Option Tlv) → HeadIn at end h → ((p : ℕ) → at < p → p ≤ end → k p ≡ l p) → row k at h ≡ row l at h
unfolding row
row_same k l at end (Some h) w same = ap (tlv h.tag at h.start h.stop) (same h.stop (omega arith) (omega arith))
row_same k l at end None w same = refl

enough : (n m gap : ℕ) (s : List ℕ) (at end : ℕ) → end - at ≤ n → end - at ≤ m → tlvs_up_to n gap s at end ≡ tlvs_up_to m gap s at end
unfolding tlvs_up_to
enough zero zero gap s at end a b = refl
enough zero (suc m) gap s at end a b = simp (le-leb (end - at) gap (omega arith))
enough (suc n) zero gap s at end a b = simp (le-leb (end - at) gap (omega arith))
enough (suc n) (suc m) gap s at end a b =
    both (leb (end - at) gap) (λ t. simp t) (λ t. simp t (row_same _ _ (at + gap) end (head_at s (at + gap) end) (head_in s (at + gap) end) (λ p after within. enough n m gap s p end (omega tests) (omega tests))))

module _ (gap : ℕ) (s : List ℕ) (at end : ℕ) where
  pub tlvs_done : end - at ≤ gap → tlvs gap s at end ≡ done at
  unfolding tlvs tlvs_up_to
  tlvs_done h = enough (end - at) (suc (end - at)) gap s at end (omega arith) (omega arith) ∙ simp (le-leb (end - at) gap h)

  pub tlvs_more : gap < end - at → tlvs gap s at end ≡ row (λ p. tlvs gap s p end) (at + gap) (head_at s (at + gap) end)
  unfolding tlvs tlvs_up_to
  tlvs_more h =
      enough (end - at) (suc (end - at)) gap s at end (omega arith) (omega arith)
      ∙ simp (lt-leb (end - at) gap h) (row_same _ _ (at + gap) end (head_at s (at + gap) end) (head_in s (at + gap) end) (λ p after within. enough (end - at) (end - p) gap s p end (omega arith) (omega arith)))

  pub tlvs_tlv : {v : Tlv} → gap < end - at → head_at s (at + gap) end ≡ Some v → tlvs gap s at end ≡ tlv v.tag (at + gap) v.start v.stop (tlvs gap s v.stop end)
  unfolding row
  tlvs_tlv h e = tlvs_more h ∙ simp e

  pub tlvs_past : gap < end - at → head_at s (at + gap) end ≡ None → tlvs gap s at end ≡ past (at + gap)
  unfolding row
  tlvs_past h e = tlvs_more h ∙ simp e

-- the same where nothing stands between the TLVs
module _ (s : List ℕ) (at end : ℕ) where
  here : at + 0 ≡ at
  here = omega arith

  pub row_done : end ≤ at → tlvs 0 s at end ≡ done at
  row_done h = tlvs_done 0 s at end (omega arith)

  pub row_tlv : {v : Tlv} → at < end → head_at s at end ≡ Some v → tlvs 0 s at end ≡ tlv v.tag at v.start v.stop (tlvs 0 s v.stop end)
  row_tlv {v} h e =
      let e' : head_at s (at + 0) end ≡ Some v = rw here e in
      rw here at (tlvs_tlv 0 s at end (omega arith) e')

  pub row_past : at < end → head_at s at end ≡ None → tlvs 0 s at end ≡ past at
  row_past h e = rw here at (tlvs_past 0 s at end (omega arith) (rw here e))

  -- the same without a test of the place: a TLV stands there, or none does, at the end or before it
  pub row_next : {v : Tlv} → head_at s at end ≡ Some v → tlvs 0 s at end ≡ tlv v.tag at v.start v.stop (tlvs 0 s v.stop end)
  row_next e = let b = head_tlv s at end e in row_tlv (omega arith) e

  pub row_ends : {A : Type 0} (f : Tlvs → A) {a : A} → head_at s at end ≡ None → f (done at) ≡ a → f (past at) ≡ a → f (tlvs 0 s at end) ≡ a
  row_ends f e d p =
      both (leb end at) (λ t. ap f (row_done (leb-true end at t)) ∙ d) (λ t. ap f (row_past (omega tests) e) ∙ p)
