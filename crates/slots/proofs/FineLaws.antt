-- The test of number 35 on an area, slot by slot.
-- Assumes nothing.
use Prim.Native.Nat.{ℕ, ◌/◌, ◌+◌, ◌-◌, ◌≤◌, ◌<◌}
use mathlib.Core.Bool.{Bool, false}
use mathlib.Core.List.{List, []}
use mathlib.Core.Path.{◌≡◌, refl, sym, ap, ◌∙◌}
use native.Mathlib.Omega.{arith}
use lib.ListN.{length, get_or, take, drop, length-take, length-drop}
use lib.Seq.{take_all}
use borrow.Author.Tests.{eq-eqb, ne_eqb, le-leb, lt-ltb, le-ltb}
use Rattle.std.specs.Prelude.{IsTrue, ◌↔◌, EachIndex}
use Rattle.std.specs.Simd.{first_chunks}
use Rattle.pour.specs.Pour.{zeros}
use Rattle.pour.proofs.StrideLaws.{false_both, same_or_false, each_both, all_by}
use Rattle.rules.specs.IsCard.{value_fine, slot_fine, slots_fine}
use Rattle.slots.specs.Slots.{slot_in, slots, tidy_slot, tidy_slots, sound_slot, sound_slots}

module _ (p : List ℕ) where
  pub fine_free : get_or p 0 0 ≡ 0 → (r : Bool) → r ≡ zeros p → r ≡ sound_slot p
  unfolding sound_slot tidy_slot slot_in slot_fine
  fine_free e r f = simp (eq-eqb _ _ e) (f ∙ sym (same_or_false (zeros p)))

  module _ (e : get_or p 0 0 ≡ 0 → ⊥) where
    pub fine_live : (get_or p 0 0 ≡ 1 → ⊥) → false ≡ sound_slot p
    unfolding sound_slot tidy_slot
    fine_live f = simp (ne_eqb _ _ e, ne_eqb _ _ f)

    module _ (f : get_or p 0 0 ≡ 1) where
      pub fine_spare : (get_or p 3 0 ≡ 0 → ⊥) → false ≡ sound_slot p
      unfolding sound_slot tidy_slot
      fine_spare g = simp (ne_eqb _ _ e, eq-eqb _ _ f, ne_eqb _ _ g)

      pub fine_type : 5 ≤ get_or p 1 0 → false ≡ sound_slot p
      unfolding sound_slot slot_in slot_fine value_fine
      fine_type g = simp (ne_eqb _ _ e, le-ltb _ _ g) (sym (false_both (tidy_slot p)))

      pub fine_value : get_or p 3 0 ≡ 0 → get_or p 1 0 < 5 → (n : ℕ) → n ≡ get_or p 2 0 → n < 256 → length p ≡ 260 → (r : Bool) → r ≡ zeros (take (260 - (4 + n)) (drop (4 + n) p)) → r ≡ sound_slot p
      unfolding sound_slot tidy_slot slot_in slot_fine value_fine
      fine_value g h n i l m r k =
          let d : length (drop (4 + n) p) ≤ 260 - (4 + n) = simp length-drop (omega arith) in
          let q : length (take n (drop 4 p)) ≤ 255 = simp length-take (omega arith) in
          let s : n ≤ 255 = omega arith in
          simp (ne_eqb _ _ e, eq-eqb _ _ f, eq-eqb _ _ g, lt-ltb _ _ h, ← i, le-leb _ _ q, le-leb _ _ s) (k ∙ ap zeros (take_all (260 - (4 + n)) (drop (4 + n) p) d) ∙ sym (same_or_false (zeros (drop (4 + n) p))))

pub fine_by : (a : List ℕ) → length a ≡ 16640 → (ps : List (List ℕ)) → ps ≡ first_chunks 260 (length a / 260) a → (r : Bool) → (IsTrue r ↔ EachIndex ps (λ k. IsTrue (sound_slot (get_or ps k [])))) → r ≡ sound_slots a
unfolding sound_slots sound_slot tidy_slots slots slots_fine
fine_by a l ps e r h =
    all_by sound_slot 64 260 a ps (rw l at e) r h
    ∙ sym (simp (eq-eqb _ _ l) (each_both slot_in tidy_slot slot_fine slots_fine refl (λ x xs. refl) 64 260 a))

pub ruleset fine_laws = (fine_free, fine_live, fine_spare, fine_type, fine_value)
