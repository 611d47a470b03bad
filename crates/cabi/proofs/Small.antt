-- The numbers of a card are small: what is packed fits its bits, and a place fits two bytes.
-- Assumes nothing.
use Prim.Native.Nat.{ℕ, ◌+◌, ◌-◌, ◌≤◌, ◌<◌}
use mathlib.Core.Bool.{true, false≢true}
use mathlib.Core.List.{List, [], ◌∷◌}
use mathlib.Core.Path.{◌≡◌, refl}
use native.Mathlib.Omega.{arith}
use lib.ListN.{length}
use lib.Dec.{eqb}
use borrow.Author.Tests.{eqb-true, eqb-false}
use Rattle.rules.specs.Tlv.{head_at}
use Rattle.rules.specs.Tlvs.{Tlvs, done, past, tlv, plain, count_in, count}
use Rattle.rules.specs.Shape.{attributes_end}
use Rattle.rules.specs.Page.{spot_or, content_at, row_of, page_head, page_row, unit_in, unit_at, unit_count, unit_row, is_code, is_place_in, is_place}
use Rattle.rules.specs.Loader.{judge}
use Rattle.rules.specs.Card.{Hand, empty, by_code, Card, in_hand, is_empty}
use Rattle.rules.specs.IsCard.{within, hand_fine, run_fine, is_card}
use Rattle.rules.proofs.Choices.{both, either}
use Rattle.rules.proofs.BlankTests.{first, second}
use Rattle.rules.proofs.Offsets.{HeadIn, head_in, RowIn, row_in, SpotIn, attributes_end_in}
use Rattle.rules.proofs.StaysCardParts.{parts_of}
use Rattle.rules.proofs.StaysCardHistory.{bounds}
use Rattle.rules.proofs.StaysCardStep.{card_running}
use Rattle.machine.proofs.CallLaws.{accepted_size}
use Rattle.std.specs.Prelude.{Option, Some, None}
use Rattle.rules.specs.declared.Tlv.{Tlv}
use Rattle.rules.specs.Built.{some_tlv}

-- a row has at most as many TLVs as bytes, and its places lie in it
count_low : (t n from end : ℕ) (r : Tlvs) → RowIn from end r → count_in t n r ≤ n + (end - from)
unfolding count_in
count_low t n from end (done p) h = omega arith
count_low t n from end (past p) h = omega arith
count_low t n from end (tlv tag at start stop rest) (a, b, d, e, h) =
    both (eqb (plain tag) t)
    (λ q. rw q (let k = count_low t (n + 1) stop end rest h in omega arith))
    (λ q. rw q (let k = count_low t n stop end rest h in omega arith))

place_low : (place from end : ℕ) (r : Tlvs) → RowIn from end r → is_place_in place r ≡ true → place ≤ end
unfolding is_place_in
place_low place from end (done p) h e = let z = eqb-true place p e in omega arith
place_low place from end (past p) h e = absurd (false≢true e)
place_low place from end (tlv tag at start stop rest) (a, b, d, f, h) e =
    both (is_code tag)
    (λ t. both (eqb place at)
    (λ u. let z = eqb-true place at u in omega arith)
    (λ u. place_low place stop end rest h (rw (t, u) at e)))
    (λ t. place_low place stop end rest h (rw t at e))

unit_in_lem : (k from end : ℕ) (r : Tlvs) → RowIn from end r → HeadIn 0 end (unit_in k r)
unfolding unit_in
unit_in_lem k from end (done p) h = tt
unit_in_lem k from end (past p) h = tt
unit_in_lem k from end (tlv tag at start stop rest) (a, b, d, f, h) =
    either (HeadIn 0 end) (eqb (plain tag) 0x0A)
    (λ _. either (HeadIn 0 end) (eqb k 0) {a = some_tlv tag start stop} (λ _. (omega arith, d, f)) (λ _. unit_in_lem (k - 1) stop end rest h))
    (λ _. unit_in_lem k stop end rest h)

module _ (s : List ℕ) where
  spot_low : (start stop : ℕ) (p : Option ℕ) → SpotIn start stop p → spot_or stop p ≤ stop
  unfolding spot_or
  spot_low start stop (Some p) h = h.1
  spot_low start stop None h = omega arith

  row_low : (at end : ℕ) (h : Option Tlv) → HeadIn at end h → (from stop : ℕ) × (stop ≤ end) × RowIn from stop (row_of s h)
  unfolding row_of content_at
  row_low at end (Some h) (a, b, d) =
      let l = spot_low h.start h.stop (attributes_end s h.tag h.start h.stop) (attributes_end_in s h.tag h.start h.stop b) in
      (spot_or h.stop (attributes_end s h.tag h.start h.stop), h.stop, d, row_in 0 s _ h.stop l)
  row_low at end None h = (0, 0, omega arith, omega arith)

  page_row_low : (from stop : ℕ) × (stop ≤ length s) × RowIn from stop (page_row s)
  unfolding page_row page_head
  page_row_low = row_low 0 (length s) (head_at s 0 (length s)) (head_in s 0 (length s))

  units_low : unit_count s ≤ length s
  unfolding unit_count count
  units_low = let (from, stop, l, h) = page_row_low in let k = count_low 0x0A 0 from stop (page_row s) h in omega arith

  places_low : (k place : ℕ) → is_place s k place ≡ true → place ≤ length s
  unfolding is_place unit_row unit_at
  places_low k place e =
      let (from, stop, l, h) = page_row_low in
      let u = unit_in_lem k from stop (page_row s) h in
      let (from', stop', l', h') = row_low 0 stop (unit_in k (page_row s)) u in
      let m = place_low place from' stop' (row_of s (unit_in k (page_row s))) h' e in
      omega arith

-- what is known of a card
pub record Small (c : Card) : Type 0 where
  pub unit : c.run.unit < 65536
  pub place : c.run.place < 65536
  pub hand : length (in_hand c.run.hand) ≤ 255

empty_hand : (h : Hand) → is_empty h ≡ true → length (in_hand h) ≤ 255
unfolding is_empty in_hand
empty_hand empty e = omega arith
empty_hand (by_code b) e = absurd (false≢true e)

full_hand : (c : Card) (h : Hand) → hand_fine c h ≡ true → length (in_hand h) ≤ 255
unfolding hand_fine in_hand
full_hand c empty e = omega arith
full_hand c (by_code b) e = (bounds 1 255 (length b) (first (within 1 255 (length b)) _ e)).1

rest_small : (c : Card) (s : List ℕ) → length s ≡ 0 → run_fine c s ≡ true → Small c
unfolding run_fine
rest_small c [] n e =
    let e1 = second (eqb c.run.unit 0) _ e in
    let e2 = second (eqb c.run.place 0) _ e1 in
    let u = eqb-true c.run.unit 0 (first (eqb c.run.unit 0) _ e) in
    let p = eqb-true c.run.place 0 (first (eqb c.run.place 0) _ e1) in
    record { unit = omega arith; place = omega arith; hand = empty_hand c.run.hand (first (is_empty c.run.hand) _ e2) }
rest_small c (x ∷ xs) n e = absurd (omega arith)

pub card_small : (c : Card) → is_card c ≡ true → Small c
card_small c e =
    let s = c.run.page in
    both (eqb (length s) 0)
    (λ t. rest_small c s (eqb-true (length s) 0 t) (parts_of c e).run)
    (λ t.
    let (r, h) = card_running c e (eqb-false (length s) 0 t) in
    let l = accepted_size s (judge s) refl r.accepted in
    let u = units_low s in
    let v = r.unit in
    let p = places_low s c.run.unit c.run.place r.place in
    record { unit = omega arith; place = omega arith; hand = full_hand c c.run.hand h })
