-- The ways through the functions on the Simple TLVs of a command.
-- Assumes nothing.
use Prim.Native.Nat.{ℕ, ◌+◌, ◌-◌, ◌*◌, ◌≤◌, ◌<◌}
use mathlib.Core.Bool.{false}
use mathlib.Core.List.{List, ◌∷◌, ◌++◌}
use mathlib.Core.Path.{◌≡◌, sym, ap, ◌∙◌}
use native.Mathlib.Omega.{arith}
use mir.Syntax.{w64}
use mir.Val.{Fits}
use lib.ListN.{length, get_or, drop, length-append, length-drop}
use lib.Seq.{length-take-le}
use borrow.Author.Tests.{eq-eqb, ne_eqb}
use Rattle.rules.specs.Bytes.{part}
use Rattle.rules.specs.Tlv.{head_at}
use Rattle.rules.specs.Tlvs.{tlvs}
use Rattle.rules.specs.Card.{Card}
use Rattle.rules.specs.Value.{joined, shortest}
use Rattle.rules.specs.Command.{indicated, expanded}
use Rattle.leaf.proofs.Cases.{was}
use Rattle.tlv.proofs.Bounds.{head_tlv}
use Rattle.tlv.proofs.Rows.{row_done, row_tlv, row_past}
use Rattle.pour.specs.Pour.{poured}
use Rattle.pour.proofs.PourLaws.{length_poured}
use Rattle.build.proofs.BuildLaws.{poured_none, poured_more, one_room, one_more_lem, rest_room}
use Rattle.variable.specs.View.{seen, view}
use Rattle.piece.specs.Piece.{pieces_from}
use Rattle.command.specs.Sent.{sent}
use Rattle.std.specs.Prelude.{Option, None, Some}
use Rattle.rules.specs.declared.Tlv.{Tlv}

module _ (page env temp perm : List ℕ) (tag at start stop : ℕ) where
  abbrev c : Card
  c = view page env temp perm

  abbrev value : List ℕ
  value = joined c (pieces_from false page (start + 1) stop)

  module _ (h : tag ≡ 0) where
    as_value : sent c tag at start stop ≡ (get_or page start 0 ∷ shortest (length value)) ++ value
    unfolding sent indicated view seen pieces_from
    as_value = simp (eq-eqb _ _ h)

    module _ (n : ℕ) (e : n ≡ length value) where
      sent_size : length (sent c tag at start stop) ≡ 1 + length (shortest n) + n
      sent_size = ap length as_value ∙ length-append (get_or page start 0 ∷ shortest (length value)) value ∙ rw e (omega arith)

      pub indicator_length : (m : ℕ) → m ≡ 1 + length (shortest n) → m + n ≡ length (sent c tag at start stop)
      indicator_length m f = rw sent_size (omega arith)

      module _ (out : List ℕ) (place : ℕ) (room : place + length (sent c tag at start stop) ≤ length out) where
        pub header_room : place + 1 + length (shortest n) ≤ length out
        header_room = omega (arith, sent_size)

        module _ (b : ℕ) (f : b ≡ get_or page start 0) (next : ℕ) (g : next ≡ place + length (b ∷ shortest n)) (d : List ℕ) (i : d ≡ poured out place (b ∷ shortest n)) where
          room_left : next + length value ≤ length d
          room_left = let q = ap length i ∙ length_poured out place (b ∷ shortest n) (omega (arith, sent_size)) in omega (arith, sent_size)

          pub indicator_next : next + n ≡ place + length (sent c tag at start stop)
          indicator_next = omega (arith, sent_size)

          pub indicator_sent : (z : List ℕ) → z ≡ poured d next value → z ≡ poured out place (sent c tag at start stop)
          indicator_sent z j = j ∙ rw (i, g) (poured_more out place (b ∷ shortest n) value (omega arith) ∙ rw (as_value, f, e))

  module _ (h : tag ≡ 0 → ⊥) where
    as_part : sent c tag at start stop ≡ part page at stop
    unfolding sent view seen
    as_part = simp (ne_eqb _ _ h)

    pub simple_length : at ≤ start → start ≤ stop → stop ≤ length page → stop - at ≡ length (sent c tag at start stop)
    unfolding part
    simple_length i j k = rw as_part (sym (length-take-le (stop - at) (drop at page) (rw (length-drop at page) (omega arith))))

    module _ (out : List ℕ) (place : ℕ) (v : List ℕ) (e : v ≡ part page at stop) where
      same_part : v ≡ sent c tag at start stop
      same_part = e ∙ sym as_part

      pub simple_room : place + length (sent c tag at start stop) ≤ length out → place + length v ≤ length out
      simple_room room = rw same_part room

      pub simple_next : (r : ℕ) → r ≡ place + length v → r ≡ place + length (sent c tag at start stop)
      simple_next r f = rw same_part at f

      pub simple_sent : (z : List ℕ) → z ≡ poured out place v → z ≡ poured out place (sent c tag at start stop)
      simple_sent z f = rw same_part at f

-- the same in the order in which its premises are found
pub value_room : (page env temp perm : List ℕ) (start stop next : ℕ) (d : List ℕ) (out : List ℕ) (place b n : ℕ) → d ≡ poured out place (b ∷ shortest n) → next ≡ place + length (b ∷ shortest n) → (tag at : ℕ) → place + length (sent (view page env temp perm) tag at start stop) ≤ length out → n ≡ length (joined (view page env temp perm) (pieces_from false page (start + 1) stop)) → b ≡ get_or page start 0 → tag ≡ 0 → next + length (joined (view page env temp perm) (pieces_from false page (start + 1) stop)) ≤ length d
value_room page env temp perm start stop next d out place b n i g tag at room e f h = room_left page env temp perm tag at start stop h n e out place room b f next g d i

pub ruleset sent_length_laws = (indicator_length, simple_length)

pub ruleset send_laws = (header_room, value_room, indicator_next, indicator_sent, simple_room, simple_next, simple_sent)

-- where a TLV of the row lies
module _ (s : List ℕ) (at end : ℕ) (r : Option Tlv) (is : r ≡ head_at s at end) (v : Tlv) (x : r ≡ Some v) where
  pub head_low : at ≤ v.start
  head_low = let b = head_tlv s at end (was is x) in omega arith

  pub head_up : v.start ≤ v.stop
  head_up = let b = head_tlv s at end (was is x) in omega arith

  pub head_high : end ≤ length s → v.stop ≤ length s
  head_high h = let b = head_tlv s at end (was is x) in omega arith

  pub head_less : at < end → end - v.stop < end - at
  head_less h = let b = head_tlv s at end (was is x) in omega arith

pub ruleset head_laws = (head_low, head_up, head_high, head_less)

-- each byte of a page that was passed adds at most what one Simple TLV takes
unfoldable pub Summed : ℕ → ℕ → ℕ → Type 0
Summed from at sum = (from ≤ at) × (at - from ≤ 4096) × (sum ≤ 17821701 * (at - from))

pub summed_start : (from : ℕ) → Summed from from 0
unfolding Summed
summed_start from = omega arith

pub summed_small : (from at sum : ℕ) → Summed from at sum → sum ≤ 72997687296
unfolding Summed
summed_small from at sum w = omega arith

module _ (s : List ℕ) (from at end sum : ℕ) (w : Summed from at sum) (h : at < end) (n : ℕ) (small : n ≤ 17821701) where
  pub sum_fits : end ≤ length s → length s ≤ 4096 → Fits w64 (sum + n)
  unfolding Summed
  sum_fits k l = omega arith

  pub summed_more : end ≤ length s → length s ≤ 4096 → (r : Option Tlv) → r ≡ head_at s at end → (v : Tlv) → r ≡ Some v → Summed from v.stop (sum + n)
  unfolding Summed
  summed_more k l r is v x = let b = head_tlv s at end (was is x) in omega arith

module _ (page env temp perm : List ℕ) (from end at : ℕ) where
  abbrev card : Card
  card = view page env temp perm

  module _ (h : at < end) {v : Tlv} (e : head_at page at end ≡ Some v) where
    expanded_tlv : expanded card (tlvs 0 page at end) ≡ sent card v.tag at v.start v.stop ++ expanded card (tlvs 0 page v.stop end)
    unfolding expanded sent
    expanded_tlv = rw (row_tlv page at end h e)

  module _ (sum : ℕ) (inv : sum + length (expanded card (tlvs 0 page at end)) ≡ length (expanded card (tlvs 0 page from end))) where
    pub length_done : end ≤ at → sum ≡ length (expanded card (tlvs 0 page from end))
    unfolding expanded
    length_done h = let e = rw (row_done page at end h) at inv in omega arith

    module _ (h : at < end) (r : Option Tlv) (is : r ≡ head_at page at end) where
      pub length_past : r ≡ None → sum ≡ length (expanded card (tlvs 0 page from end))
      unfolding expanded
      length_past x = let e = rw (row_past page at end h (was is x)) at inv in omega arith

      pub length_more : (v : Tlv) → r ≡ Some v → (n : ℕ) → n ≡ length (sent card v.tag at v.start v.stop) → sum + n + length (expanded card (tlvs 0 page v.stop end)) ≡ length (expanded card (tlvs 0 page from end))
      length_more v x n f = let e = simp (expanded_tlv h (was is x), length-append) at inv in omega arith

  module _ (out₀ out : List ℕ) (place next : ℕ) (inv : poured out next (expanded card (tlvs 0 page at end)) ≡ poured out₀ place (expanded card (tlvs 0 page from end))) where
    pub expand_done : end ≤ at → out ≡ poured out₀ place (expanded card (tlvs 0 page from end))
    unfolding expanded
    expand_done h = sym (poured_none out next) ∙ (rw (row_done page at end h) at inv)

    module _ (h : at < end) (r : Option Tlv) (is : r ≡ head_at page at end) where
      pub expand_past : r ≡ None → out ≡ poured out₀ place (expanded card (tlvs 0 page from end))
      unfolding expanded
      expand_past x = sym (poured_none out next) ∙ (rw (row_past page at end h (was is x)) at inv)

      module _ (room : next + length (expanded card (tlvs 0 page at end)) ≤ length out) (v : Tlv) (x : r ≡ Some v) where
        abbrev rest : List ℕ
        rest = expanded card (tlvs 0 page v.stop end)

        opens : expanded card (tlvs 0 page at end) ≡ sent card v.tag at v.start v.stop ++ rest
        opens = expanded_tlv h (was is x)

        pub expand_room : next + length (sent card v.tag at v.start v.stop) ≤ length out
        expand_room = one_room out₀ out _ rest (sent card v.tag at v.start v.stop) place next (rw opens at inv) (rw opens at room)

        module _ (d : List ℕ) (f : d ≡ poured out next (sent card v.tag at v.start v.stop)) (m : ℕ) (g : m ≡ next + length (sent card v.tag at v.start v.stop)) where
          pub expand_more : poured d m rest ≡ poured out₀ place (expanded card (tlvs 0 page from end))
          expand_more = one_more_lem out₀ out _ rest (sent card v.tag at v.start v.stop) place next (rw opens at inv) (rw opens at room) d f m g

          pub expand_rest : m + length rest ≤ length d
          expand_rest = rest_room out₀ out _ rest (sent card v.tag at v.start v.stop) place next (rw opens at inv) (rw opens at room) d f m g

pub ruleset length_laws = (summed_start, summed_small, sum_fits, summed_more, length_done, length_past, length_more)

pub ruleset expand_laws = (expand_done, expand_past, expand_room, expand_more, expand_rest)
