-- Where the TLVs in a TLV stand: `tlvs 0 s from end` of this span is its row. Of no TLV it is empty.
use Rattle.std.specs.Prelude.{List, ℕ, Option, Some, None}
use Rattle.rules.specs.Page.{content_at}
use Rattle.rules.specs.declared.Span.{Span}
use Rattle.rules.specs.declared.Tlv.{Tlv}

unfoldable pub span_of : List ℕ → Option Tlv → Span
span_of s (Some h) = record { from = content_at s h.tag h.start h.stop; end = h.stop }
span_of s None = record { from = 0; end = 0 }
