-- A TLV is its three numbers.
use mathlib.Core.Path.{◌≡◌, ap}
use Prim.Native.Nat.{ℕ}
use Rattle.std.specs.Prelude.{Option, Some, None}
use Rattle.rules.specs.declared.Tlv.{Tlv}
use Rattle.rules.specs.Built.{some_tlv}

tlv_or : Tlv → Option Tlv → Tlv
tlv_or d (Some h) = h
tlv_or d None = d

pub same_tlv : {t a b tag start stop : ℕ} → some_tlv t a b ≡ some_tlv tag start stop → (t ≡ tag) × (a ≡ start) × (b ≡ stop)
unfolding tlv_or
same_tlv {t = t} {a = a} {b = b} e =
    let d : Tlv = record { tag = t; start = a; stop = b } in
    (ap (λ h. (tlv_or d h).tag) e, ap (λ h. (tlv_or d h).start) e, ap (λ h. (tlv_or d h).stop) e)
