-- What stands at a place of a page or of a response: a length, a TLV (clause 5).
use Rattle.std.specs.Prelude.{ℕ, ◌+◌, ◌-◌, ◌*◌, cond, List, get_or, ltb, leb, eqb, Option, Some, None}
use Rattle.rules.specs.declared.Tlv.{Tlv}
use Rattle.rules.specs.Built.{some_tlv}

-- Clause 5: the length at a place, before an end: one byte up to '7F', '81' and one byte, or '82' and two, the high byte first.
-- A longer form than needed is taken (House).
unfoldable pub length_at : List ℕ → ℕ → ℕ → Option (ℕ × ℕ)
length_at s at end =
    cond (leb end at) None
    (cond (ltb (get_or s at 0) 0x80) (Some ((get_or s at 0), (at + 1)))
    (cond (eqb (get_or s at 0) 0x81) (cond (ltb (end - at) 2) None (Some ((get_or s (at + 1) 0), (at + 2))))
    (cond (eqb (get_or s at 0) 0x82) (cond (ltb (end - at) 3) None (Some ((get_or s (at + 1) 0 * 256 + get_or s (at + 2) 0), (at + 3))))
    None)))

-- the TLV whose length was read: it ends inside its container, or there is none
unfoldable pub head_of : ℕ → ℕ → Option (ℕ × ℕ) → Option Tlv
head_of tag end (Some p) = cond (ltb (end - p.1) p.0) None (some_tlv tag p.1 (p.1 + p.0))
head_of tag end None = None

-- the TLV at a place, before an end
unfoldable pub head_at : List ℕ → ℕ → ℕ → Option Tlv
head_at s at end = cond (leb end at) None (head_of (get_or s at 0) end (length_at s (at + 1) end))
