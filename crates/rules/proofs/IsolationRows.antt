-- Parts of a page's bytes, and rows of TLVs by what stands at each place.
-- Assumes nothing.
use mathlib.Core.Path.{◌≡◌, refl}
use mathlib.Core.List.{List, [], ◌∷◌}
use Prim.Native.Nat.{ℕ, zero, suc, ◌+◌, ◌-◌, ◌≤◌, ◌<◌}
use native.Mathlib.Nat.{add-zero, sub-zero, suc-sub-suc, zero-sub}
use native.Mathlib.Numerals.{add-one}
use native.Mathlib.Omega.{arith}
use lib.ListN.{length, get_or, take, drop, length-drop}
use lib.Seq.{drop-cons, take-take, drop-drop, length-take-le, take-nil, take-length}
use lib.Dec.{leb}
use Rattle.rules.specs.Bytes.{part}
use Rattle.rules.specs.Tlv.{head_at}
use Rattle.rules.specs.Tlvs.{Tlvs, done, past, tlv, row, tlvs_up_to, tlvs}
use Rattle.rules.proofs.Choices.{both}
use Rattle.rules.proofs.Offsets.{head_in, tests}
use Rattle.std.specs.Prelude.{Option, Some, None}
use Rattle.rules.specs.declared.Tlv.{Tlv}
use Rattle.rules.specs.Built.{some_tlv}

drop_take : (n m : ℕ) (l : List ℕ) → drop n (take m l) ≡ take (m - n) (drop n l)
drop_take zero m l = rw (sub-zero m)
drop_take (suc n) zero l = rw (zero-sub (suc n))
drop_take (suc n) (suc m) [] = rw (take-nil (suc m - suc n))
drop_take (suc n) (suc m) (x ∷ xs) = rw (suc-sub-suc m n) (drop_take n m xs)

module _ (s : List ℕ) where
  pub length_part : (from to : ℕ) → to ≤ length s → length (part s from to) ≡ to - from
  unfolding part
  length_part from to h = length-take-le (to - from) (drop from s) (rw (length-drop from s) (omega arith))

  pub part_none : (from to : ℕ) → to ≤ from → part s from to ≡ []
  unfolding part
  part_none from to h = let e : to - from ≡ 0 = omega arith in rw e

  pub part_cons : (from to : ℕ) → from < to → to ≤ length s → part s from to ≡ get_or s from 0 ∷ part s (from + 1) to
  unfolding part
  part_cons from to h k =
      let e : to - from ≡ suc (to - (from + 1)) = omega arith in
      rw (e, drop-cons s from 0 (omega arith), add-one)

  pub take_part : (n from to : ℕ) → from + n ≤ to → take n (part s from to) ≡ part s from (from + n)
  unfolding part
  take_part n from to h =
      let e : from + n - from ≡ n = omega arith in
      rw (take-take n (to - from) (drop from s) (omega arith), e)

  pub drop_part : (n from to : ℕ) → drop n (part s from to) ≡ part s (from + n) to
  unfolding part
  drop_part n from to =
      let e : to - from - n ≡ to - (from + n) = omega arith in
      rw (drop_take n (to - from) (drop from s), drop-drop n from s, e)

  pub part_all : part s 0 (length s) ≡ s
  unfolding part
  part_all = rw (sub-zero (length s), take-length s)

-- the row of the TLVs from a place on, before an end
abbrev pub Row : List ℕ → ℕ → ℕ → Tlvs → Type 0
Row s end at (done p) = (p ≡ at) × (end ≤ at)
Row s end at (past p) = (p ≡ at) × (head_at s at end ≡ None)
Row s end at (tlv tag place start stop rest) = (place ≡ at) × (head_at s at end ≡ some_tlv tag start stop) × Row s end stop rest

pub tlv_in : (s : List ℕ) (at end tag start stop : ℕ) → head_at s at end ≡ some_tlv tag start stop → (at < start) × (start ≤ stop) × (stop ≤ end)
tlv_in s at end tag start stop e = rw e at (head_in s at end)

module _ (s : List ℕ) (end : ℕ) where
  begins : (k : ℕ → Tlvs) (at : ℕ) → ((p : ℕ) → at < p → Row s end p (k p)) → (h : Option Tlv) → head_at s at end ≡ h → Row s end at (row k at h)
  unfolding row
  begins k at more (Some h) e = let i = tlv_in s at end h.tag h.start h.stop e in (refl, e, more h.stop (omega arith))
  begins k at more None e = (refl, e)

  up_to : (n at : ℕ) → end - at ≤ n → Row s end at (tlvs_up_to n 0 s at end)
  unfolding tlvs_up_to
  up_to zero at h = (refl, omega arith)
  up_to (suc n) at h =
      both (leb (end - at) 0)
      (λ t. simp t (refl, omega tests))
      (λ t. simp (t, add-zero) (begins _ at (λ p q. up_to n p (omega arith)) (head_at s at end) refl))

  pub row_of_lem : (at : ℕ) → Row s end at (tlvs 0 s at end)
  unfolding tlvs
  row_of_lem at = up_to (end - at) at (omega arith)
