-- The TLVs of a row lie one after another between its ends.
-- Assumes nothing.
use Prim.Native.Nat.{ℕ, zero, suc, ◌+◌, ◌-◌, ◌≤◌, ◌<◌}
use mathlib.Core.List.{List}
use lib.Dec.{leb}
use native.Mathlib.Omega.{arith}
use Rattle.rules.specs.Tlv.{head_at}
use Rattle.rules.specs.Tlvs.{Tlvs, done, past, tlv, row, tlvs_up_to, tlvs}
use Rattle.leaf.proofs.Cases.{both}
use Rattle.tlv.proofs.Bounds.{HeadIn, head_in}
use Rattle.std.specs.Prelude.{Option, Some, None}
use Rattle.rules.specs.declared.Tlv.{Tlv}

unfoldable pub RowIn : ℕ → ℕ → Tlvs → Type 0
RowIn from end (done p) = Unit {0}
RowIn from end (past p) = Unit {0}
RowIn from end (tlv tag at start stop rest) = (from ≤ at) × (at < start) × (start ≤ stop) × (stop ≤ end) × RowIn from end rest

row_in : (rest : ℕ → Tlvs) (from at end : ℕ) (h : Option Tlv) → from ≤ at → HeadIn at end h → ((p : ℕ) → from ≤ p → RowIn from end (rest p)) → RowIn from end (row rest at h)
unfolding RowIn row
row_in rest from at end (Some h) low b on = (low, b.0, b.1, b.2, on h.stop (omega arith))
row_in rest from at end None low b on = tt

tlvs_up_to_in : (n gap : ℕ) (s : List ℕ) (from at end : ℕ) → from ≤ at → RowIn from end (tlvs_up_to n gap s at end)
unfolding RowIn tlvs_up_to
tlvs_up_to_in zero gap s from at end low = tt
tlvs_up_to_in (suc n) gap s from at end low =
    both (leb (end - at) gap) (λ t. simp t tt)
    (λ t. simp t (row_in _ from (at + gap) end (head_at s (at + gap) end) (omega arith) (head_in s (at + gap) end) (λ p h. tlvs_up_to_in n gap s from p end h)))

pub tlvs_in : (gap : ℕ) (s : List ℕ) (at end : ℕ) → RowIn at end (tlvs gap s at end)
unfolding tlvs
tlvs_in gap s at end = tlvs_up_to_in (end - at) gap s at at end (omega arith)
