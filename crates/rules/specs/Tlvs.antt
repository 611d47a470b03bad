-- The row of TLVs of a container. Before each of them stand `gap` bytes that are no TLV: the number in '40' (8.1), else none.
use Rattle.std.specs.Prelude.{ℕ, zero, suc, ◌+◌, ◌-◌, ◌%◌, cond, List, leb, eqb, Option, Some, None}
use Rattle.rules.specs.Tlv.{head_at}
use Rattle.rules.specs.declared.Tlv.{Tlv}

-- TLVs one after another, each with its tag, its place, and where its value starts and stops. The row is done where no further TLV can begin,
-- or ends at the place of a TLV that runs past the container.
pub data Tlvs : Type 0 where
  done : ℕ → Tlvs
  past : ℕ → Tlvs
  tlv : (tag at start stop : ℕ) → Tlvs → Tlvs

-- the row that starts with a TLV and goes on from its end
unfoldable pub row : (ℕ → Tlvs) → ℕ → Option Tlv → Tlvs
row rest at (Some h) = tlv h.tag at h.start h.stop (rest h.stop)
row rest at None = past at

-- at most n TLVs
unfoldable pub tlvs_up_to : ℕ → ℕ → List ℕ → ℕ → ℕ → Tlvs
tlvs_up_to zero gap s at end = done at
tlvs_up_to (suc n) gap s at end = cond (leb (end - at) gap) (done at) (row (λ p. tlvs_up_to n gap s p end) (at + gap) (head_at s (at + gap) end))

-- the TLVs from a place up to an end: there are at most as many as bytes
unfoldable pub tlvs : ℕ → List ℕ → ℕ → ℕ → Tlvs
tlvs gap s at end = tlvs_up_to (end - at) gap s at end

-- 5.1: a tag without the bit that says that attributes follow
unfoldable pub plain : ℕ → ℕ
plain tag = tag % 128

-- how many TLVs of a row have a tag, with attributes or without, over n
unfoldable pub count_in : ℕ → ℕ → Tlvs → ℕ
count_in t n (done p) = n
count_in t n (past p) = n
count_in t n (tlv tag at start stop rest) = cond (eqb (plain tag) t) (count_in t (n + 1) rest) (count_in t n rest)

unfoldable pub count : ℕ → Tlvs → ℕ
count t row = count_in t 0 row
