-- Spans and the rows that stand there.
-- Assumes nothing.
use Prim.Native.Nat.{ℕ, ◌≤◌}
use mathlib.Core.List.{List}
use mathlib.Core.Path.{◌≡◌, refl, sym, subst, ◌∙◌}
use native.Mathlib.Omega.{arith}
use lib.ListN.{length}
use Rattle.rules.specs.Tlv.{head_at}
use Rattle.rules.specs.Tlvs.{tlvs}
use Rattle.rules.specs.Page.{content_at, row_of, page_head}
use Rattle.tlv.proofs.Bounds.{HeadIn, head_in, content_in}
use Rattle.tlv.proofs.Rows.{row_done}
use Rattle.page.specs.Span.{span_of}
use Rattle.std.specs.Prelude.{Option, Some, None}
use Rattle.rules.specs.declared.Tlv.{Tlv}
use Rattle.rules.specs.Built.{some_tlv}

-- a TLV lies within the first n bytes
abbrev pub Within : ℕ → Option Tlv → Type 0
Within n (Some h) = (h.start ≤ h.stop) × (h.stop ≤ n)
Within n None = Unit {0}

pub within_tlv : {n tag start stop : ℕ} (h r : Option Tlv) → Within n h → r ≡ h → r ≡ some_tlv tag start stop → (start ≤ stop) × (stop ≤ n)
within_tlv {n} h r w e x = subst (Within n) (sym e ∙ x) w

head_within : (at end : ℕ) (h : Option Tlv) → HeadIn at end h → Within end h
head_within at end (Some h) b = omega arith
head_within at end None b = tt

pub page_within : (s : List ℕ) → Within (length s) (page_head s)
unfolding page_head
page_within s = head_within 0 (length s) (head_at s 0 (length s)) (head_in s 0 (length s))

pub span_row : (s : List ℕ) (h : Option Tlv) → tlvs 0 s (span_of s h).from (span_of s h).end ≡ row_of s h
unfolding span_of row_of
span_row s (Some h) = refl
span_row s None = row_done s 0 0 (omega arith)

pub span_within : (s : List ℕ) (n : ℕ) (h : Option Tlv) → Within n h → ((span_of s h).from ≤ (span_of s h).end) × ((span_of s h).end ≤ n)
unfolding span_of
span_within s n (Some h) w = let b = content_in s h.tag h.start h.stop w.0 in omega arith
span_within s n None w = omega arith

module _ (s : List ℕ) (h r : Option Tlv) (is : r ≡ h) where
  pub span_none : r ≡ None → record { from = 0; end = 0 } ≡ span_of s h
  unfolding span_of
  span_none x = simp (sym is ∙ x)

  pub span_held : (v : Tlv) → r ≡ Some v → (p : ℕ) → p ≡ content_at s v.tag v.start v.stop → record { from = p; end = v.stop } ≡ span_of s h
  unfolding span_of
  span_held v x p y = simp (sym is ∙ x, y)

pub page_stop : (s : List ℕ) (r : Option Tlv) → r ≡ page_head s → (v : Tlv) → r ≡ Some v → v.stop ≤ length s
page_stop s r is v x = (within_tlv (page_head s) r (page_within s) is x).1

pub ruleset span_laws = (span_none, span_held, page_stop)
