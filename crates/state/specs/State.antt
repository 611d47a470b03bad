-- The card that a state is, and its canonical form.
use Rattle.std.specs.Prelude.{ℕ, Bool, true, false, cond, ◌≡◌, List, [], length, take, drop, leb, eqb}
use Rattle.pour.specs.Pour.{zeros}
use Rattle.rules.specs.Card.{Card, Run, created, with_environment}
use Rattle.slots.specs.Slots.{slots, tidy_slots}
use Rattle.records.specs.Records.{records, tidy_records}
use Rattle.trail.specs.Trail.{history_of, tidy_trail}
use Rattle.word.specs.Word.{word_in, guard_of, hand_of, tidy_guard, tidy_hand, tidy_wanted}
use Rattle.state.specs.declared.State.{State}

-- the page that runs
unfoldable pub page_of : State → List ℕ
page_of m = take m.len m.page

unfoldable pub run_of : State → Run
run_of m = record { page = page_of m; unit = m.unit; place = m.place; hand = hand_of m.hand }

unfoldable pub card : State → Card
card m =
    record {
      environment = slots m.environment;
      permanent = records m.permanent;
      temporary = slots m.temporary;
      guard = guard_of m.guard;
      history = history_of m.trail;
      run = run_of m;
      wanted = word_in m.wanted;
    }

-- canonical form: bytes that mean nothing are zero, here those past the page
unfoldable pub tidy_page : List ℕ → ℕ → Bool
tidy_page p n = cond (eqb (length p) 4096) (cond (leb n 4096) (zeros (drop n p)) false) false

unfoldable pub tidy_words : State → Bool
tidy_words m = cond (tidy_guard m.guard) (cond (tidy_hand m.hand) (tidy_wanted m.wanted) false) false

unfoldable pub tidy_areas : State → Bool
tidy_areas m = cond (tidy_slots m.environment) (cond (tidy_slots m.temporary) (tidy_records m.permanent) false) false

unfoldable pub tidy : State → Bool
tidy m = cond (tidy_page m.page m.len) (cond (tidy_areas m) (cond (tidy_trail m.trail) (tidy_words m) false) false) false

-- a state is a card: part by part, in canonical form
pub record Is (m : State) (c : Card) : Type 0 where
  pub environment : slots m.environment ≡ c.environment
  pub temporary : slots m.temporary ≡ c.temporary
  pub permanent : records m.permanent ≡ c.permanent
  pub guard : guard_of m.guard ≡ c.guard
  pub history : history_of m.trail ≡ c.history
  pub page : page_of m ≡ c.run.page
  pub unit : m.unit ≡ c.run.unit
  pub place : m.place ≡ c.run.place
  pub hand : hand_of m.hand ≡ c.run.hand
  pub wanted : word_in m.wanted ≡ c.wanted
  pub tidy_environment : tidy_slots m.environment ≡ true
  pub tidy_temporary : tidy_slots m.temporary ≡ true
  pub tidy_permanent : tidy_records m.permanent ≡ true
  pub tidy_guarded : tidy_guard m.guard ≡ true
  pub tidy_history : tidy_trail m.trail ≡ true
  pub tidy_run : tidy_page m.page m.len ≡ true
  pub tidy_held : tidy_hand m.hand ≡ true
  pub tidy_want : tidy_wanted m.wanted ≡ true

-- A state that is not in canonical form counts as no card (House): a card without an environment is none.
unfoldable pub no_card : Card
no_card = with_environment created []

unfoldable pub card_of : State → Card
card_of m = cond (tidy m) (card m) no_card
