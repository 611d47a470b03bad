-- What a byte code writes leaves areas that number 35 accepts.
-- Assumes nothing.
use mathlib.Core.Path.{◌≡◌, refl, ap, ◌∙◌}
use mathlib.Core.Bool.{true, cond}
use mathlib.Core.List.{List, [], ◌∷◌}
use Prim.Native.Nat.{ℕ, ◌-◌, ◌≤◌, ◌<◌}
use native.Mathlib.Omega.{arith}
use lib.ListN.{length, get_or, set, length-set}
use lib.Dec.{ltb, eqb}
use borrow.Author.Tests.{eqb-false, ltb-false, le-leb, lt-ltb}
use Rattle.rules.specs.Tlvs.{Tlvs, done, past, tlv, plain}
use Rattle.rules.specs.Page.{service}
use Rattle.rules.specs.Card.{Slot, free, held, Record, stored, Card, with_temporary, with_permanent}
use Rattle.rules.specs.Store.{Area, environmental, permanently, temporarily, string, area, place_for, writing, writing_in, rank, worse, room, record_room, longest, room_limit, Written, wrote, no_room, write_temporary, write_permanent, write_in, write}
use Rattle.rules.specs.Value.{pieces_of, joined, type_for}
use Rattle.rules.specs.Command.{Execute, has_general, has_output, general_number, output_number, optimises, text_type, optimised, output, write_slot, then_output, results, result_complaint}
use Rattle.rules.specs.Step.{number_before, setting_complaint, then_set, set_all}
use Rattle.rules.specs.IsCard.{value_fine, slot_fine, record_fine}
use Rattle.rules.specs.declared.Complaint.{Complaint}
use Rattle.rules.specs.declared.Complaint.TheVariants.{Nothing, Undefined, Secured, Misused}
use Rattle.rules.proofs.Choices.{both, either}
use Rattle.rules.proofs.Offsets.{tests}
use Rattle.rules.proofs.BlankTests.{pass}
use Rattle.rules.proofs.StaysCardParts.{AreasOf}
use Rattle.rules.proofs.StaysCardStore.{Numbered, numbered, slots_set, records_write, type_for_type}
use Rattle.rules.proofs.StaysCardHistory.{between}
use Rattle.std.specs.Prelude.{Option, Some, None}
use Rattle.rules.specs.declared.Tlv.{Tlv}

-- a card with other permanent and temporary variables
abbrev pub over : Card → List Record → List Slot → Card
over c p t = record { environment = c.environment; permanent = p; temporary = t; guard = c.guard; history = c.history; run = c.run; wanted = c.wanted }

-- a write that leaves the areas of a card, or finds no room
pub data Stored (c : Card) : Written → Type 0 where
  stores : (p : List Record) (t : List Slot) → AreasOf (over c p t) → Stored c (wrote (over c p t))
  refused : Stored c no_room

-- no complaint
rank_none : (a : Complaint) → rank a ≤ 0 → a ≡ Nothing
unfolding rank
rank_none Nothing h = refl
rank_none Undefined h = absurd (omega arith)
rank_none Secured h = absurd (omega arith)
rank_none Misused h = absurd (omega arith)

pub none_worse : (a b : Complaint) → worse a b ≡ Nothing → (a ≡ Nothing) × (b ≡ Nothing)
unfolding worse rank
none_worse a b e =
    both (ltb (rank a) (rank b))
    (λ t. let q : b ≡ Nothing = rw t at e in let z : rank b ≡ 0 = ap rank q in absurd (omega tests))
    (λ t. let q : a ≡ Nothing = rw t at e in let z : rank a ≡ 0 = ap rank q in (q, rank_none b (omega tests)))

-- a page that may write a permanent variable has a Service ID
may_write : (id : List ℕ) (a : Area) → writing_in id a ≡ Nothing → a ≡ permanently → 1 ≤ length id
unfolding writing_in
may_write id environmental e q = let z : ◌≡◌ {A = ℕ} 0 1 = cc in absurd (omega arith)
may_write id permanently e q =
    both (eqb (length id) 0)
    (λ t. let k : Secured ≡ Nothing = rw t at e in let z : ◌≡◌ {A = ℕ} 0 1 = cc in absurd (omega arith))
    (λ t. let z = eqb-false (length id) 0 t in omega arith)
may_write id temporarily e q = let z : ◌≡◌ {A = ℕ} 0 1 = cc in absurd (omega arith)
may_write id string e q = let z : ◌≡◌ {A = ℕ} 0 1 = cc in absurd (omega arith)

module _ (c : Card) (areas : AreasOf c) (served : length (service c.run.page) ≤ 16) where
  write_in_stored : (n type : ℕ) (bytes : List ℕ) → type < 5 → length bytes ≤ longest → (a : Area) → area n ≡ a → writing_in (service c.run.page) a ≡ Nothing → Stored c (write_in a c n type bytes)
  unfolding write_in write_permanent write_temporary with_permanent with_temporary record_fine value_fine slot_fine
  write_in_stored n type bytes t l environmental q e = stores c.permanent c.temporary areas
  write_in_stored n type bytes t l permanently q e =
      let id = service c.run.page in
      let k = place_for id n c.permanent in
      let m : Numbered permanently n = rw q at (numbered n) in
      let f : record_fine (stored id n type bytes) ≡ true =
      pass (between 0x40 0x7F n m.0 (omega arith)) (pass (between 1 16 (length id) (may_write id permanently e refl) served) (pass (lt-ltb type 5 t) (le-leb (length bytes) longest l))) in
      let w = set c.permanent k (stored id n type bytes) in
      either (Stored c) (ltb k (length c.permanent))
      (λ _. either (Stored c) (ltb room_limit (record_room w)) (λ _. refused)
      (λ u. stores w c.temporary
      (record {
        environments = areas.environments;
        temporaries = areas.temporaries;
        permanents = length-set c.permanent k (stored id n type bytes) ∙ areas.permanents;
        environment_fine = areas.environment_fine;
        temporary_fine = areas.temporary_fine;
        temporary_room = areas.temporary_room;
        permanent_fine = records_write id n type bytes c.permanent f areas.permanent_fine;
        permanent_room = ltb-false room_limit (record_room w) u;
      })))
      (λ _. refused)
  write_in_stored n type bytes t l temporarily q e =
      let w = set c.temporary (n - 0x80) (held type bytes) in
      either (Stored c) (ltb room_limit (room w)) (λ _. refused)
      (λ u. stores c.permanent w
      (record {
        environments = areas.environments;
        temporaries = length-set c.temporary (n - 0x80) (held type bytes) ∙ areas.temporaries;
        permanents = areas.permanents;
        environment_fine = areas.environment_fine;
        temporary_fine = slots_set c.temporary (n - 0x80) (held type bytes) areas.temporary_fine (pass (lt-ltb type 5 t) (le-leb (length bytes) longest l));
        temporary_room = ltb-false room_limit (room w) u;
        permanent_fine = areas.permanent_fine;
        permanent_room = areas.permanent_room;
      }))
  write_in_stored n type bytes t l string q e = stores c.permanent c.temporary areas

  pub write_stored : (n type : ℕ) (bytes : List ℕ) → type < 5 → writing c n ≡ Nothing → Stored c (write c n type bytes)
  unfolding write writing
  write_stored n type bytes t e =
      either (Stored c) (ltb longest (length bytes)) (λ _. refused)
      (λ u. write_in_stored n type bytes t (ltb-false longest (length bytes) u) (area n) refl e)

widen : (c : Card) (p : List Record) (t : List Slot) {w : Written} → Stored (over c p t) w → Stored c w
widen c p t (stores p' t' a) = stores p' t' a
widen c p t refused = refused

-- one write after another
then_set_stored : (c : Card) (p : List Record) (t : List Slot) (f : Card → Written) → ((p' : List Record) (t' : List Slot) → AreasOf (over c p' t') → Stored c (f (over c p' t'))) →
    {w : Written} → Stored (over c p t) w → Stored c (then_set f w)
unfolding then_set
then_set_stored c p t f k (stores p' t' a) = k p' t' a
then_set_stored c p t f k refused = refused

module _ (c : Card) (served : length (service c.run.page) ≤ 16) where
  pub set_all_stored : (row : Tlvs) (known : List ℕ) → setting_complaint c known row ≡ Nothing → (p : List Record) (t : List Slot) → AreasOf (over c p t) → Stored c (set_all row (over c p t))
  unfolding set_all setting_complaint number_before writing
  set_all_stored (done q) known e p t a = stores p t a
  set_all_stored (past q) known e p t a = stores p t a
  set_all_stored (tlv tag at start stop rest) known e p t a =
      let d = over c p t in
      let k = none_worse _ (setting_complaint c (number_before c at ∷ known) rest) e in
      let j = none_worse (writing c (number_before c at)) _ k.0 in
      then_set_stored c p t (λ x. set_all rest x) (λ p' t' a'. set_all_stored rest (number_before c at ∷ known) k.1 p' t' a')
      (write_stored d a served (number_before d at) (type_for d tag start stop) (joined d (pieces_of d.run.page tag start stop)) (type_for_type d a tag start stop) j.0)

  -- the results of a response
  text_type_lem : (dcs : ℕ) → text_type dcs < 5
  unfolding text_type
  text_type_lem dcs = either (λ x. x < 5) (eqb dcs 0) (λ _. omega arith) (λ _. either (λ x. x < 5) (eqb dcs 4) (λ _. omega arith) (λ _. either (λ x. x < 5) (eqb dcs 8) (λ _. omega arith) (λ _. omega arith)))

  abbrev TypeFine : Slot → Type 0
  TypeFine free = Unit {0}
  TypeFine (held type bytes) = type < 5

  optimised_type : (r : List ℕ) (h : Option Tlv) → TypeFine (optimised r h)
  unfolding optimised
  optimised_type r (Some h) =
      either TypeFine (eqb (plain h.tag) 0x0D)
      (λ _. either TypeFine (ltb h.start h.stop) {a = held _ _} {b = held 0 []} (λ _. text_type_lem (get_or r h.start 0)) (λ _. omega arith))
      (λ _. omega arith)
  optimised_type r None = omega arith

  output_type : (r : List ℕ) (x : Execute) (h : Option Tlv) → TypeFine (output r x h)
  unfolding output
  output_type r x h = either TypeFine (optimises x) {b = held 0 r} (λ _. optimised_type r h) (λ _. omega arith)

  write_slot_stored : (p : List Record) (t : List Slot) → AreasOf (over c p t) → (n : ℕ) → writing c n ≡ Nothing → (v : Slot) → TypeFine v → Stored c (write_slot (over c p t) n v)
  unfolding write_slot writing
  write_slot_stored p t a n e free f = stores p t a
  write_slot_stored p t a n e (held type bytes) f = widen c p t (write_stored (over c p t) a served n type bytes f e)

  then_output_stored : (r : List ℕ) (x : Execute) (h : Option Tlv) → cond (has_output x) (writing c (output_number c.run.page x)) Nothing ≡ Nothing → {w : Written} → Stored c w → Stored c (then_output r x h w)
  unfolding then_output
  then_output_stored r x h e (stores p t a) =
      both (has_output x)
      (λ u. rw u (write_slot_stored p t a (output_number c.run.page x) (rw u at e) (output r x h) (output_type r x h)))
      (λ u. rw u (stores p t a))
  then_output_stored r x h e refused = refused

  pub results_stored : AreasOf c → (x : Execute) (g : ℕ) (r : List ℕ) (h : Option Tlv) → result_complaint c x ≡ Nothing → Stored c (results c x g r h)
  unfolding results result_complaint
  results_stored a x g r h e =
      let k = none_worse _ (cond (has_output x) (writing c (output_number c.run.page x)) Nothing) e in
      then_output_stored r x h k.1
      (both (has_general x)
      (λ u. rw u (write_stored c a served (general_number c.run.page x) 0 (g ∷ []) (omega arith) (rw u at k.0)))
      (λ u. rw u (stores c.permanent c.temporary a)))
