-- What number 35 tests, part by part.
-- Assumes nothing.
use mathlib.Core.Path.{◌≡◌}
use mathlib.Core.Bool.{true}
use mathlib.Core.List.{List}
use Prim.Native.Nat.{◌≤◌}
use lib.ListN.{length}
use lib.Dec.{leb, eqb}
use borrow.Author.Tests.{eqb-true, eq-eqb, leb-true, le-leb}
use Rattle.rules.specs.Card.{Slot, Record, Card, slots}
use Rattle.rules.specs.Store.{room, record_room, room_limit}
use Rattle.rules.specs.IsCard.{slots_fine, records_fine, history_fine, guard_fine, run_fine, areas_fine, is_card}
use Rattle.rules.proofs.BlankTests.{first, second, pass}

pub record Areas (environment temporary : List Slot) (permanent : List Record) : Type 0 where
  pub environments : length environment ≡ slots
  pub temporaries : length temporary ≡ slots
  pub permanents : length permanent ≡ slots
  pub environment_fine : slots_fine environment ≡ true
  pub temporary_fine : slots_fine temporary ≡ true
  pub temporary_room : room temporary ≤ room_limit
  pub permanent_fine : records_fine permanent ≡ true
  pub permanent_room : record_room permanent ≤ room_limit

abbrev pub AreasOf : Card → Type 0
AreasOf c = Areas c.environment c.temporary c.permanent

pub record Parts (c : Card) : Type 0 where
  pub areas : AreasOf c
  pub history : history_fine c.history ≡ true
  pub guard : guard_fine c.guard ≡ true
  pub run : run_fine c c.run.page ≡ true

module _ (c : Card) where
  areas_of : areas_fine c ≡ true → AreasOf c
  unfolding areas_fine
  areas_of e =
      let e1 = second (eqb (length c.environment) slots) _ e in
      let e2 = second (eqb (length c.temporary) slots) _ e1 in
      let e3 = second (eqb (length c.permanent) slots) _ e2 in
      let e4 = second (slots_fine c.environment) _ e3 in
      let e5 = second (slots_fine c.temporary) _ e4 in
      let e6 = second (leb (room c.temporary) room_limit) _ e5 in
      record {
        environments = eqb-true _ _ (first (eqb (length c.environment) slots) _ e);
        temporaries = eqb-true _ _ (first (eqb (length c.temporary) slots) _ e1);
        permanents = eqb-true _ _ (first (eqb (length c.permanent) slots) _ e2);
        environment_fine = first (slots_fine c.environment) _ e3;
        temporary_fine = first (slots_fine c.temporary) _ e4;
        temporary_room = leb-true _ _ (first (leb (room c.temporary) room_limit) _ e5);
        permanent_fine = first (records_fine c.permanent) _ e6;
        permanent_room = leb-true _ _ (second (records_fine c.permanent) _ e6);
      }

  of_areas : AreasOf c → areas_fine c ≡ true
  unfolding areas_fine
  of_areas a =
      pass (eq-eqb _ _ a.environments) (pass (eq-eqb _ _ a.temporaries) (pass (eq-eqb _ _ a.permanents)
      (pass a.environment_fine (pass a.temporary_fine (pass (le-leb _ _ a.temporary_room) (pass a.permanent_fine (le-leb _ _ a.permanent_room)))))))

  pub parts_of : is_card c ≡ true → Parts c
  unfolding is_card
  parts_of e =
      let e1 = second (areas_fine c) _ e in
      let e2 = second (history_fine c.history) _ e1 in
      record {
        areas = areas_of (first (areas_fine c) _ e);
        history = first (history_fine c.history) _ e1;
        guard = first (guard_fine c.guard) _ e2;
        run = second (guard_fine c.guard) _ e2;
      }

  pub of_parts : Parts c → is_card c ≡ true
  unfolding is_card
  of_parts p = pass (of_areas p.areas) (pass p.history (pass p.guard p.run))
