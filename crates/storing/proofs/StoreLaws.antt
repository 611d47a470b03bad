-- The ways through the byte codes that store, in the shape of what their proofs need.
-- Assumes nothing.
use Prim.Native.Nat.{ℕ, ◌+◌, ◌≤◌, ◌<◌}
use mathlib.Core.Bool.{Bool, true, false, cond}
use mathlib.Core.List.{List, [], ◌∷◌}
use mathlib.Core.Path.{◌≡◌, refl, ◌∙◌}
use native.Mathlib.Omega.{arith}
use lib.ListN.{length, take}
use Rattle.rules.specs.declared.Complaint.{Complaint}
use Rattle.rules.specs.declared.Refusal.TheVariants.{Memory}
use Rattle.rules.specs.Bytes.{part}
use Rattle.rules.specs.Tlvs.{Tlvs, done, past, tlv, tlvs}
use Rattle.rules.specs.Pieces.{named}
use Rattle.rules.specs.Page.{service}
use Rattle.rules.specs.Card.{Card, with_temporary, with_permanent}
use Rattle.rules.specs.Store.{area, writing, writing_in, worse, Written, wrote, no_room, write}
use Rattle.rules.specs.Value.{pieces_of, complaint, joined, shortest}
use Rattle.rules.specs.Step.{refuses, does, Move, onwards, storing, number_before, setting_complaint, set_all}
use Rattle.rules.proofs.StaysCardWrite.{over}
use Rattle.slots.specs.Slots.{slots, tidy_slots}
use Rattle.records.specs.Records.{records, tidy_records}
use Rattle.variable.specs.View.{seen, bare, view}
use Rattle.value.proofs.Bare.{bare_complaint, bare_joined}
use Rattle.piece.specs.Piece.{pieces_from}
use Rattle.state.specs.declared.State.{State}
use Rattle.state.specs.State.{Is, page_of}
use Rattle.state.proofs.Changes.{new_temporary, new_permanent}
use Rattle.storing.proofs.Lift.{lift, write_lift, set_all_lift}

pub bare_setting : (c : Card) (known : List ℕ) (row : Tlvs) → setting_complaint (bare c) known row ≡ setting_complaint c known row
unfolding setting_complaint bare seen number_before writing
bare_setting c known (done p) = refl
bare_setting c known (past p) = refl
bare_setting c known (tlv tag at start stop rest) =
    rw (bare_complaint c known (pieces_of c.run.page tag start stop), bare_setting c (number_before c at ∷ known) rest) refl

module _ (m : State) (c : Card) (is : Is m c) (s : List ℕ) (p : s ≡ take m.len m.page) where
  pub page_is : s ≡ c.run.page
  unfolding page_of
  page_is = p ∙ is.page

  pub view_is : bare c ≡ view s m.environment m.temporary m.permanent
  unfolding bare view
  view_is = rw (page_is, is.environment, is.temporary, is.permanent) refl

  module _ (t q : List ℕ) (i : tidy_slots m.temporary ≡ true → tidy_slots t ≡ true) (j : tidy_records m.permanent ≡ true → tidy_records q ≡ true) where
    pub stored_is : Is (record { page = m.page; len = m.len; environment = m.environment; temporary = t; permanent = q; trail = m.trail; guard = m.guard; hand = m.hand; wanted = m.wanted; unit = m.unit; place = m.place }) (over c (records q) (slots t))
    unfolding with_temporary with_permanent
    stored_is = new_permanent _ _ (new_temporary m c is t (slots t) refl (i is.tidy_temporary)) q (records q) refl (j is.tidy_permanent)

  set_lift : (start stop : ℕ) → set_all (tlvs 1 c.run.page start stop) c ≡ lift c (set_all (tlvs 1 s start stop) (view s m.environment m.temporary m.permanent))
  set_lift start stop = rw (← view_is, page_is) (set_all_lift (tlvs 1 c.run.page start stop) c)

  length_lift : (n from to : ℕ) → write c n 3 (shortest (length (joined c (named (part c.run.page from to))))) ≡ lift c (write (view s m.environment m.temporary m.permanent) n 3 (shortest (length (joined (view s m.environment m.temporary m.permanent) (named (part s from to))))))
  length_lift n from to =
      rw (← view_is, page_is, bare_joined c (named (part c.run.page from to))) (write_lift c n 3 (shortest (length (joined c (named (part c.run.page from to)))))).0

  -- a write that went well is done on the card, and one that did not is refused
  module _ (b : Bool) (t q : List ℕ) where
    module _ (move : Move) (w v : Written) (e : w ≡ lift c v) (f : v ≡ cond b (wrote (view s m.environment t q)) no_room) where
      stores : b ≡ true → storing move w ≡ does (over c (records q) (slots t)) move
      unfolding lift view seen storing
      stores g = rw (e, f, g) refl

      store_fails : b ≡ false → storing move w ≡ refuses Memory
      unfolding lift storing
      store_fails g = rw (e, f, g) refl

    module _ (start stop : ℕ) (e : set_all (tlvs 1 s start stop) (view s m.environment m.temporary m.permanent) ≡ cond b (wrote (view s m.environment t q)) no_room) where
      pub set_done : b ≡ true → storing (onwards stop) (set_all (tlvs 1 c.run.page start stop) c) ≡ does (over c (records q) (slots t)) (onwards stop)
      set_done g = stores (onwards stop) _ _ (set_lift start stop) e g

      pub set_full : b ≡ false → storing (onwards stop) (set_all (tlvs 1 c.run.page start stop) c) ≡ refuses Memory
      set_full g = store_fails (onwards stop) _ _ (set_lift start stop) e g

    module _ (n from to stop : ℕ) (e : write (view s m.environment m.temporary m.permanent) n 3 (shortest (length (joined (view s m.environment m.temporary m.permanent) (named (part s from to))))) ≡ cond b (wrote (view s m.environment t q)) no_room) where
      pub length_done : b ≡ true → storing (onwards stop) (write c n 3 (shortest (length (joined c (named (part c.run.page from to)))))) ≡ does (over c (records q) (slots t)) (onwards stop)
      length_done g = stores (onwards stop) _ _ (length_lift n from to) e g

      pub length_full : b ≡ false → storing (onwards stop) (write c n 3 (shortest (length (joined c (named (part c.run.page from to)))))) ≡ refuses Memory
      length_full g = store_fails (onwards stop) _ _ (length_lift n from to) e g

-- the bounds of the page as it is lent
module _ (s p : List ℕ) (e : s ≡ p) where
  pub page_stop : (stop : ℕ) → stop ≤ length p → stop ≤ length s
  page_stop stop h = rw e h

  pub page_service : length (service p) ≤ 16 → length (service s) ≤ 16
  page_service h = rw e h

  pub lent_stop : (stop : ℕ) → stop ≤ length s → stop ≤ length p
  lent_stop stop h = rw (← e) h

  pub page_next : (start stop : ℕ) → start ≤ stop → stop ≤ length p → length s ≤ 4096 → start + 1 < 18446744073709551616
  page_next start stop h i l = let k : stop ≤ length s = page_stop stop i in omega arith

pub ruleset bound_laws = (page_stop, page_service, lent_stop, page_next)

pub complaint_none : (w : Complaint) (page env temp perm none : List ℕ) (n from to : ℕ) (a b : Complaint) → none ≡ part page 0 0 → a ≡ writing_in (service page) (area n)
    → b ≡ complaint (view page env temp perm) none (pieces_from true page from to) → w ≡ worse a b → w ≡ worse (writing_in (service page) (area n)) (complaint (view page env temp perm) [] (named (part page from to)))
unfolding pieces_from part
complaint_none w page env temp perm none n from to a b x y z v = v ∙ rw (y, z, x) refl
