-- The TLVs of a row that have a tag, by their number.
use Rattle.std.specs.Prelude.{ℕ, ◌-◌, cond, eqb, Option, None}
use Rattle.rules.specs.Tlvs.{Tlvs, done, past, tlv, plain}
use Rattle.rules.specs.declared.Tlv.{Tlv}
use Rattle.rules.specs.Built.{some_tlv}

-- the n-th, from 0, with attributes or without
unfoldable pub nth_in : ℕ → ℕ → Tlvs → Option Tlv
nth_in t n (done p) = None
nth_in t n (past p) = None
nth_in t n (tlv tag at start stop rest) = cond (eqb (plain tag) t) (cond (eqb n 0) (some_tlv tag start stop) (nth_in t (n - 1) rest)) (nth_in t n rest)
