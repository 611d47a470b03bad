-- What a read asks of a card every card has: the loader accepts no page with a longer string (class 6), and at rest there is no page.
-- Assumes nothing.
use Prim.Native.Nat.{ℕ, suc, ◌+◌, ◌-◌, ◌≤◌}
use mathlib.Core.Bool.{true, false, true≢false}
use mathlib.Core.List.{List, [], ◌∷◌}
use mathlib.Core.Path.{◌≡◌, refl}
use native.Mathlib.Omega.{arith}
use lib.ListN.{length, length-take}
use lib.Dec.{ltb, leb, eqb}
use borrow.Author.Tests.{ltb-false, eqb-true}
use Rattle.rules.specs.Bytes.{part, among}
use Rattle.rules.specs.Tlv.{head_at}
use Rattle.rules.specs.Tlvs.{Tlvs, done, past, tlv}
use Rattle.rules.specs.Pieces.{Pieces, full, cut, text, variable, pieces}
use Rattle.rules.specs.Grammar.{cell_of, page_kind}
use Rattle.rules.specs.Shape.{number_in}
use Rattle.rules.specs.Page.{row_of, page_head, page_row, part_in, page_part, pool_in, pool, element_in, element}
use Rattle.rules.specs.Forms.{sizes, size_of, out_of_size, big_pool, too_big}
use Rattle.rules.specs.Loader.{judge}
use Rattle.rules.specs.Card.{Card}
use Rattle.rules.specs.Store.{string_of, value_bytes}
use Rattle.rules.specs.IsCard.{is_card}
use Rattle.rules.proofs.StaysCardWalk.{Sound, Proper, sound_tlv}
use Rattle.rules.proofs.StaysCardPage.{page_sound}
use Rattle.rules.proofs.StaysCardStep.{card_running}
use Rattle.leaf.proofs.Cases.{both}
use Rattle.reading.specs.Strings.{ShortStrings}
use Rattle.std.specs.Prelude.{Ok}

module _ (s : List ℕ) where
  part_length : (a b : ℕ) → length (part s a b) ≤ b - a
  unfolding part
  part_length a b = simp length-take (omega arith)

  small_element : (n k : ℕ) (p : Pieces) → big_pool k p ≡ false → length (value_bytes (string_of s (element_in n p))) ≤ 255
  unfolding big_pool element_in string_of value_bytes
  small_element n k full h = omega arith
  small_element n k cut h = omega arith
  small_element n k (text a b rest) h =
      both (leb 64 k) (λ t. absurd (true≢false (rw t at h)))
      (λ t. both (ltb 255 (b - a)) (λ u. absurd (true≢false (rw (t, u) at h)))
      (λ u. both (eqb n 0)
      (λ v. rw v (let l = part_length a b in let m = ltb-false 255 (b - a) u in omega arith))
      (λ v. rw v (small_element (n - 1) (k + 1) rest (rw (t, u) at h)))))
  small_element n k (variable m rest) h = small_element n k rest h

  small_pool : (left within from last at start stop : ℕ) → Proper s left within from last 0x07 at start stop → big_pool 0 (pieces false s start stop) ≡ false
  unfolding too_big size_of sizes number_in among out_of_size
  small_pool left within from last at start stop h = h.sized

  pool_strings : (left within from last n : ℕ) (r : Tlvs) → Sound s left within from last r → length (value_bytes (string_of s (element_in n (pool_in s (part_in 0x07 r))))) ≤ 255
  unfolding part_in pool_in element_in string_of value_bytes
  pool_strings left within from last n (done p) h = omega arith
  pool_strings left within from last n (past p) h = omega arith
  pool_strings left within from last n (tlv tag at start stop rest) h =
      let i = sound_tlv s left within from last tag at start stop rest h in
      both (eqb tag 0x07)
      (λ q. rw q (small_element n 0 (pieces false s start stop) (small_pool left within from last at start stop (rw (eqb-true tag 0x07 q) at i.0))))
      (λ q. rw q (pool_strings left within from (cell_of within tag) n rest i.1))

  accepted_strings : judge s ≡ Ok tt → (n : ℕ) → length (value_bytes (string_of s (element s n))) ≤ 255
  unfolding element pool page_part
  accepted_strings e n = let w = page_sound s e in pool_strings 6 page_kind w.from 0 n (page_row s) w.sound

no_strings : (n : ℕ) → length (value_bytes (string_of [] (element [] n))) ≤ 255
unfolding element pool page_part pool_in part_in page_row row_of page_head head_at element_in string_of value_bytes
no_strings n = omega arith

module _ (c : Card) (e : is_card c ≡ true) where
  by_page : (s : List ℕ) → c.run.page ≡ s → (n : ℕ) → length (value_bytes (string_of s (element s n))) ≤ 255
  by_page [] q n = no_strings n
  by_page (x ∷ xs) q n =
      let some : length c.run.page ≡ 0 → ⊥ = λ z. let l : suc (length xs) ≡ 0 = rw q at z in omega arith in
      accepted_strings (x ∷ xs) (rw q at (card_running c e some).0.accepted) n

  -- a read may be asked of every card
  pub card_strings : ShortStrings c
  card_strings n = by_page c.run.page refl n
