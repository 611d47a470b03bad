-- A state with one part changed is the card with that part changed.
-- Assumes nothing.
use Prim.Native.Nat.{ℕ}
use mathlib.Core.Bool.{true}
use mathlib.Core.List.{List}
use mathlib.Core.Path.{◌≡◌, refl}
use lib.ListN.{take}
use Rattle.rules.specs.Card.{Slot, Record, Guard, History, Hand, Run, Card, with_environment, with_temporary, with_permanent, with_guard, with_history, with_run, with_wanted}
use Rattle.slots.specs.Slots.{slots, tidy_slots}
use Rattle.records.specs.Records.{records, tidy_records}
use Rattle.trail.specs.Trail.{history_of, tidy_trail}
use Rattle.word.specs.Word.{word_in, guard_of, hand_of, tidy_guard, tidy_hand, tidy_wanted}
use Rattle.state.specs.declared.State.{State}
use Rattle.state.specs.State.{page_of, tidy_page, Is}

module _ (m : State) (c : Card) (is : Is m c) where
  pub new_environment : (area : List ℕ) (x : List Slot) → slots area ≡ x → tidy_slots area ≡ true → Is (record { page = m.page; len = m.len; environment = area; temporary = m.temporary; permanent = m.permanent; trail = m.trail; guard = m.guard; hand = m.hand; wanted = m.wanted; unit = m.unit; place = m.place }) (with_environment c x)
  unfolding with_environment page_of
  new_environment area x e t =
      record {
        environment = e;
        temporary = is.temporary;
        permanent = is.permanent;
        guard = is.guard;
        history = is.history;
        page = is.page;
        unit = is.unit;
        place = is.place;
        hand = is.hand;
        wanted = is.wanted;
        tidy_environment = t;
        tidy_temporary = is.tidy_temporary;
        tidy_permanent = is.tidy_permanent;
        tidy_guarded = is.tidy_guarded;
        tidy_history = is.tidy_history;
        tidy_run = is.tidy_run;
        tidy_held = is.tidy_held;
        tidy_want = is.tidy_want;
      }

  pub new_temporary : (area : List ℕ) (x : List Slot) → slots area ≡ x → tidy_slots area ≡ true → Is (record { page = m.page; len = m.len; environment = m.environment; temporary = area; permanent = m.permanent; trail = m.trail; guard = m.guard; hand = m.hand; wanted = m.wanted; unit = m.unit; place = m.place }) (with_temporary c x)
  unfolding with_temporary page_of
  new_temporary area x e t =
      record {
        environment = is.environment;
        temporary = e;
        permanent = is.permanent;
        guard = is.guard;
        history = is.history;
        page = is.page;
        unit = is.unit;
        place = is.place;
        hand = is.hand;
        wanted = is.wanted;
        tidy_environment = is.tidy_environment;
        tidy_temporary = t;
        tidy_permanent = is.tidy_permanent;
        tidy_guarded = is.tidy_guarded;
        tidy_history = is.tidy_history;
        tidy_run = is.tidy_run;
        tidy_held = is.tidy_held;
        tidy_want = is.tidy_want;
      }

  pub new_permanent : (area : List ℕ) (x : List Record) → records area ≡ x → tidy_records area ≡ true → Is (record { page = m.page; len = m.len; environment = m.environment; temporary = m.temporary; permanent = area; trail = m.trail; guard = m.guard; hand = m.hand; wanted = m.wanted; unit = m.unit; place = m.place }) (with_permanent c x)
  unfolding with_permanent page_of
  new_permanent area x e t =
      record {
        environment = is.environment;
        temporary = is.temporary;
        permanent = e;
        guard = is.guard;
        history = is.history;
        page = is.page;
        unit = is.unit;
        place = is.place;
        hand = is.hand;
        wanted = is.wanted;
        tidy_environment = is.tidy_environment;
        tidy_temporary = is.tidy_temporary;
        tidy_permanent = t;
        tidy_guarded = is.tidy_guarded;
        tidy_history = is.tidy_history;
        tidy_run = is.tidy_run;
        tidy_held = is.tidy_held;
        tidy_want = is.tidy_want;
      }

  pub new_guard : (word : List ℕ) (x : Guard) → guard_of word ≡ x → tidy_guard word ≡ true → Is (record { page = m.page; len = m.len; environment = m.environment; temporary = m.temporary; permanent = m.permanent; trail = m.trail; guard = word; hand = m.hand; wanted = m.wanted; unit = m.unit; place = m.place }) (with_guard c x)
  unfolding with_guard page_of
  new_guard word x e t =
      record {
        environment = is.environment;
        temporary = is.temporary;
        permanent = is.permanent;
        guard = e;
        history = is.history;
        page = is.page;
        unit = is.unit;
        place = is.place;
        hand = is.hand;
        wanted = is.wanted;
        tidy_environment = is.tidy_environment;
        tidy_temporary = is.tidy_temporary;
        tidy_permanent = is.tidy_permanent;
        tidy_guarded = t;
        tidy_history = is.tidy_history;
        tidy_run = is.tidy_run;
        tidy_held = is.tidy_held;
        tidy_want = is.tidy_want;
      }

  pub new_history : (trail : List ℕ) (x : History) → history_of trail ≡ x → tidy_trail trail ≡ true → Is (record { page = m.page; len = m.len; environment = m.environment; temporary = m.temporary; permanent = m.permanent; trail = trail; guard = m.guard; hand = m.hand; wanted = m.wanted; unit = m.unit; place = m.place }) (with_history c x)
  unfolding with_history page_of
  new_history trail x e t =
      record {
        environment = is.environment;
        temporary = is.temporary;
        permanent = is.permanent;
        guard = is.guard;
        history = e;
        page = is.page;
        unit = is.unit;
        place = is.place;
        hand = is.hand;
        wanted = is.wanted;
        tidy_environment = is.tidy_environment;
        tidy_temporary = is.tidy_temporary;
        tidy_permanent = is.tidy_permanent;
        tidy_guarded = is.tidy_guarded;
        tidy_history = t;
        tidy_run = is.tidy_run;
        tidy_held = is.tidy_held;
        tidy_want = is.tidy_want;
      }

  pub new_wanted : (word : List ℕ) (x : List ℕ) → word_in word ≡ x → tidy_wanted word ≡ true → Is (record { page = m.page; len = m.len; environment = m.environment; temporary = m.temporary; permanent = m.permanent; trail = m.trail; guard = m.guard; hand = m.hand; wanted = word; unit = m.unit; place = m.place }) (with_wanted c x)
  unfolding with_wanted page_of
  new_wanted word x e t =
      record {
        environment = is.environment;
        temporary = is.temporary;
        permanent = is.permanent;
        guard = is.guard;
        history = is.history;
        page = is.page;
        unit = is.unit;
        place = is.place;
        hand = is.hand;
        wanted = e;
        tidy_environment = is.tidy_environment;
        tidy_temporary = is.tidy_temporary;
        tidy_permanent = is.tidy_permanent;
        tidy_guarded = is.tidy_guarded;
        tidy_history = is.tidy_history;
        tidy_run = is.tidy_run;
        tidy_held = is.tidy_held;
        tidy_want = t;
      }

  pub new_run : (page : List ℕ) (len : ℕ) (hand : List ℕ) (x : Run) → take len page ≡ x.page → hand_of hand ≡ x.hand → tidy_page page len ≡ true → tidy_hand hand ≡ true → Is (record { page = page; len = len; environment = m.environment; temporary = m.temporary; permanent = m.permanent; trail = m.trail; guard = m.guard; hand = hand; wanted = m.wanted; unit = x.unit; place = x.place }) (with_run c x)
  unfolding with_run page_of
  new_run page len hand x e f t u =
      record {
        environment = is.environment;
        temporary = is.temporary;
        permanent = is.permanent;
        guard = is.guard;
        history = is.history;
        page = e;
        unit = refl;
        place = refl;
        hand = f;
        wanted = is.wanted;
        tidy_environment = is.tidy_environment;
        tidy_temporary = is.tidy_temporary;
        tidy_permanent = is.tidy_permanent;
        tidy_guarded = is.tidy_guarded;
        tidy_history = is.tidy_history;
        tidy_run = t;
        tidy_held = u;
        tidy_want = is.tidy_want;
      }

  -- another place of the page, with another command in hand or none
  pub new_place : (hand : List ℕ) (x : Hand) (unit place : ℕ) → hand_of hand ≡ x → tidy_hand hand ≡ true → Is (record { page = m.page; len = m.len; environment = m.environment; temporary = m.temporary; permanent = m.permanent; trail = m.trail; guard = m.guard; hand = hand; wanted = m.wanted; unit = unit; place = place }) (with_run c (record { page = c.run.page; unit = unit; place = place; hand = x }))
  unfolding page_of
  new_place hand x unit place e t = new_run m.page m.len hand (record { page = c.run.page; unit = unit; place = place; hand = x }) is.page e is.tidy_run t
