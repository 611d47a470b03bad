-- The row of pairs unfolds by one pair.
-- Assumes nothing.
use Prim.Native.Nat.{ℕ, ◌+◌, ◌-◌, ◌≤◌, ◌<◌}
use mathlib.Core.List.{List}
use mathlib.Core.Path.{◌≡◌, sym, ◌∙◌}
use native.Mathlib.Omega.{arith}
use Rattle.rules.specs.Tlv.{head_at}
use Rattle.rules.specs.Tlvs.{done, past, tlv, row, tlvs}
use Rattle.tlv.proofs.Bounds.{head_tlv}
use Rattle.tlv.proofs.Rows.{tlvs_done, tlvs_more}
use Rattle.std.specs.Prelude.{Option, None, Some}
use Rattle.rules.specs.declared.Tlv.{Tlv}

module _ (s : List ℕ) (at stop : ℕ) where
  pub pairs_done : stop - at ≤ 1 → tlvs 1 s at stop ≡ done at
  pairs_done h = tlvs_done 1 s at stop h

  module _ (h : 1 < stop - at) where
    pub pairs_past : head_at s (at + 1) stop ≡ None → tlvs 1 s at stop ≡ past (at + 1)
    unfolding row
    pairs_past e = tlvs_more 1 s at stop h ∙ simp e

    pub pairs_tlv : {v : Tlv} → head_at s (at + 1) stop ≡ Some v → tlvs 1 s at stop ≡ tlv v.tag (at + 1) v.start v.stop (tlvs 1 s v.stop stop)
    unfolding row
    pairs_tlv e = tlvs_more 1 s at stop h ∙ simp e

-- what the loops need: the next pair begins after this one, inside
module _ (s : List ℕ) (at stop : ℕ) (r : Option Tlv) (is : r ≡ head_at s (at + 1) stop) (v : Tlv) (x : r ≡ Some v) where
  pub pair_before : v.stop ≤ stop
  pair_before = let b = head_tlv s (at + 1) stop (sym is ∙ x) in omega arith

  pub pair_within : (n : ℕ) → stop ≤ n → v.stop ≤ n
  pair_within n h = let b = head_tlv s (at + 1) stop (sym is ∙ x) in omega arith

  pub pair_less : 1 < stop - at → stop - v.stop < stop - at
  pair_less h = let b = head_tlv s (at + 1) stop (sym is ∙ x) in omega arith

  pub pair_counted : (n : ℕ) → n + n ≤ at → n + 1 + (n + 1) ≤ v.stop
  pair_counted n h = let b = head_tlv s (at + 1) stop (sym is ∙ x) in omega arith

pub ruleset pair_laws = (pair_before, pair_within, pair_less, pair_counted)
