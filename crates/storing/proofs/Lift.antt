-- What is written to the part that a card shows is written to the card, and nothing else of it changes.
-- Assumes nothing.
use Prim.Native.Nat.{ℕ, ◌-◌}
use mathlib.Core.Bool.{cond}
use mathlib.Core.List.{List, [], ◌∷◌}
use mathlib.Core.Path.{◌≡◌, refl, sym, ap, ◌∙◌}
use lib.ListN.{length, set}
use lib.Dec.{ltb}
use Rattle.rules.specs.Tlvs.{Tlvs, done, past, tlv}
use Rattle.rules.specs.Page.{service}
use Rattle.rules.specs.Card.{Slot, free, held, Record, stored, Card, with_temporary, with_permanent}
use Rattle.rules.specs.Store.{Area, environmental, permanently, temporarily, string, area, place_for, room, record_room, longest, room_limit, Written, wrote, no_room, write_temporary, write_permanent, write_in, write}
use Rattle.rules.specs.Value.{pieces_of, joined, type_for}
use Rattle.rules.specs.Command.{Execute, has_general, has_output, general_number, output_number, output, write_slot, then_output, results}
use Rattle.rules.specs.Step.{number_before, then_set, set_all}
use Rattle.rules.proofs.StaysCardWrite.{over}
use Rattle.leaf.proofs.Cases.{both}
use Rattle.variable.specs.View.{seen, bare}
use Rattle.value.proofs.Bare.{bare_joined}
use Rattle.valuetype.proofs.Bare.{bare_type}
use Rattle.std.specs.Prelude.{Option}
use Rattle.rules.specs.declared.Tlv.{Tlv}

unfoldable pub lift : Card → Written → Written
lift c (wrote d) = wrote (over c d.permanent d.temporary)
lift c no_room = no_room

-- what is written to a card that only shows its part shows it too
abbrev Kept : Card → Written → Type 0
Kept c (wrote d) = d ≡ bare (over c d.permanent d.temporary)
Kept c no_room = Unit {0}

temporary_lift : (c : Card) (k : ℕ) (x : Slot) → (write_temporary c k x ≡ lift c (write_temporary (bare c) k x)) × Kept c (write_temporary (bare c) k x)
unfolding write_temporary lift bare seen with_temporary
temporary_lift c k x = both (ltb room_limit (room (set c.temporary k x))) (λ t. simp t (refl, tt)) (λ t. simp t (refl, refl))

permanent_lift : (c : Card) (k : ℕ) (x : Record) → (write_permanent c k x ≡ lift c (write_permanent (bare c) k x)) × Kept c (write_permanent (bare c) k x)
unfolding write_permanent lift bare seen with_permanent
permanent_lift c k x =
    both (ltb k (length c.permanent))
    (λ t. both (ltb room_limit (record_room (set c.permanent k x))) (λ u. simp (t, u) (refl, tt)) (λ u. simp (t, u) (refl, refl)))
    (λ t. simp t (refl, tt))

area_lift : (a : Area) (c : Card) (n type : ℕ) (bytes : List ℕ) → (write_in a c n type bytes ≡ lift c (write_in a (bare c) n type bytes)) × Kept c (write_in a (bare c) n type bytes)
unfolding write_in lift bare seen
area_lift environmental c n type bytes = (refl, refl)
area_lift permanently c n type bytes = permanent_lift c (place_for (service c.run.page) n c.permanent) (stored (service c.run.page) n type bytes)
area_lift temporarily c n type bytes = temporary_lift c (n - 0x80) (held type bytes)
area_lift string c n type bytes = (refl, refl)

pub write_lift : (c : Card) (n type : ℕ) (bytes : List ℕ) → (write c n type bytes ≡ lift c (write (bare c) n type bytes)) × Kept c (write (bare c) n type bytes)
unfolding write lift
write_lift c n type bytes = both (ltb longest (length bytes)) (λ t. simp t (refl, tt)) (λ t. simp t (area_lift (area n) c n type bytes))

then_lift : (c : Card) (f : Card → Written) → ((p : List Record) (t : List Slot) → f (over c p t) ≡ lift (over c p t) (f (bare (over c p t)))) → (w : Written) → Kept c w → then_set f (lift c w) ≡ lift c (then_set f w)
unfolding then_set lift
then_lift c f h (wrote d) k = h d.permanent d.temporary ∙ lift_over (f (bare (over c d.permanent d.temporary))) ∙ ap (λ (e : Card). lift c (f e)) (sym k)
  where
    lift_over : (w : Written) → lift (over c d.permanent d.temporary) w ≡ lift c w
    lift_over (wrote e) = refl
    lift_over no_room = refl
then_lift c f h no_room k = refl

pub set_all_lift : (row : Tlvs) (c : Card) → set_all row c ≡ lift c (set_all row (bare c))
unfolding set_all lift bare seen number_before
set_all_lift (done p) c = refl
set_all_lift (past p) c = refl
set_all_lift (tlv tag at start stop rest) c =
    let n = number_before c at in
    let type = type_for c tag start stop in
    let bytes = joined c (pieces_of c.run.page tag start stop) in
    let w = write_lift c n type bytes in
    ap (then_set (λ d. set_all rest d)) w.0
    ∙ then_lift c (λ d. set_all rest d) (λ p t. set_all_lift rest (over c p t)) (write (bare c) n type bytes) w.1
    ∙ sym (rw (bare_type c tag start stop, bare_joined c (pieces_of c.run.page tag start stop)) refl)

slot_lift : (c : Card) (n : ℕ) (x : Slot) → write_slot c n x ≡ lift c (write_slot (bare c) n x)
unfolding write_slot lift bare seen
slot_lift c n free = refl
slot_lift c n (held type bytes) = (write_lift c n type bytes).0

general_lift : (c : Card) (x : Execute) (g : ℕ) →
    (cond (has_general x) (write c (general_number c.run.page x) 0 (g ∷ [])) (wrote c) ≡ lift c (cond (has_general x) (write (bare c) (general_number c.run.page x) 0 (g ∷ [])) (wrote (bare c))))
    × Kept c (cond (has_general x) (write (bare c) (general_number c.run.page x) 0 (g ∷ [])) (wrote (bare c)))
unfolding lift bare seen
general_lift c x g = both (has_general x) (λ t. simp t (write_lift c (general_number c.run.page x) 0 (g ∷ []))) (λ t. simp t (refl, refl))

output_lift : (c : Card) (x : Execute) (r : List ℕ) (after : Option Tlv) (p : List Record) (t : List Slot) →
    then_output r x after (wrote (over c p t)) ≡ lift c (then_output r x after (wrote (bare (over c p t))))
unfolding then_output lift bare seen
output_lift c x r after p t =
    both (has_output x)
    (λ u. simp u (slot_lift (over c p t) (output_number c.run.page x) (output r x after) ∙ lift_over (write_slot (bare (over c p t)) (output_number c.run.page x) (output r x after))))
    (λ u. simp u refl)
  where
    lift_over : (w : Written) → lift (over c p t) w ≡ lift c w
    lift_over (wrote e) = refl
    lift_over no_room = refl

outputs_lift : (c : Card) (x : Execute) (r : List ℕ) (after : Option Tlv) (w : Written) → Kept c w → then_output r x after (lift c w) ≡ lift c (then_output r x after w)
unfolding lift then_output
outputs_lift c x r after (wrote d) k = output_lift c x r after d.permanent d.temporary ∙ ap (λ (e : Card). lift c (then_output r x after (wrote e))) (sym k)
outputs_lift c x r after no_room k = refl

pub results_lift : (c : Card) (x : Execute) (g : ℕ) (r : List ℕ) (after : Option Tlv) → results c x g r after ≡ lift c (results (bare c) x g r after)
unfolding results bare seen
results_lift c x g r after =
    let w = general_lift c x g in
    ap (then_output r x after) w.0
    ∙ outputs_lift c x r after (cond (has_general x) (write (bare c) (general_number c.run.page x) 0 (g ∷ [])) (wrote (bare c))) w.1
