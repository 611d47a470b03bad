-- A run, in the shape of what its proof needs.
-- Assumes nothing.
use Prim.Native.Nat.{ℕ, zero, suc, ◌+◌, ◌-◌, ◌≤◌, ◌<◌}
use mathlib.Core.Bool.{true, false}
use mathlib.Core.List.{List, [], ◌∷◌}
use mathlib.Core.Path.{◌≡◌, refl}
use native.Mathlib.Omega.{arith}
use lib.ListN.{length, take}
use Rattle.pour.specs.Pour.{blank}
use Rattle.rules.specs.declared.Outcome.{Outcome}
use Rattle.rules.specs.declared.Outcome.TheVariants.{On as GoneOn, Command}
use Rattle.rules.specs.Loader.{judge}
use Rattle.rules.specs.Page.{keep_list, password, bytes_of}
use Rattle.rules.specs.Card.{Card}
use Rattle.rules.specs.Keep.{kept_by, guard_by}
use Rattle.rules.specs.Step.{effect, stepped}
use Rattle.rules.specs.Calls.{buffer_after, Counted, goes_on, steps}
use Rattle.rules.proofs.StaysCardStep.{card_running, stepped_card, empty_page}
use Rattle.slots.specs.Slots.{slots, tidy_slots}
use Rattle.word.specs.Word.{guard_of, tidy_guard}
use Rattle.leaving.proofs.Accepted.{accepted_password}
use Rattle.state.specs.declared.State.{State}
use Rattle.state.specs.State.{Is, card, run_of, page_of}
use Rattle.state.proofs.Canonical.{is_card_lem}
use Rattle.state.proofs.RestLaws.{rest_is}
use Rattle.moving.specs.Moved.{Comes}
use Rattle.parts.specs.Parts.{laid}
use Rattle.parts.specs.declared.Course.{Course}
use Rattle.stepping.specs.declared.Took.{Took}
use Rattle.stepping.specs.declared.Took.TheVariants.{On, Sent, Ends}
use Rattle.stepping.specs.Took.{Ready, Leads}
use Rattle.running.specs.Course.{Counts}
use Rattle.running.proofs.GoesOn.{stepped_on}
use Rattle.std.specs.Prelude.{Ok}

pub ready_accepted : (m : State) → Ready m → judge (take m.len m.page) ≡ Ok tt
unfolding card run_of page_of
ready_accepted m r = r.runs.accepted

filled : (s : List ℕ) → judge s ≡ Ok tt → length s ≡ 0 → ⊥
filled [] e z = empty_page e
filled (x ∷ xs) e z = absurd (omega arith)

one_less : (n k : ℕ) → k < n → n - k ≡ suc (n - (k + 1))
one_less n k h = omega arith

pub steps_start : (n : ℕ) (c : Card) → steps (n - 0) 0 c ≡ steps n 0 c
steps_start n c = let z : n - 0 ≡ n = omega arith in rw z refl

pub run_out : (n k : ℕ) (m : State) (w : Counted) → steps (n - k) k (card m) ≡ w → Ready m → (before : List ℕ) → n ≤ k → k ≤ n → Counts (record { state = m; ran = record { outcome = GoneOn; count = k } }) before before w
unfolding steps buffer_after
run_out n k m w inv r before h i =
    let z : n - k ≡ zero = omega arith in
    let e : record { count = k; last = effect GoneOn (card m) } ≡ w = rw z at inv in
    rw (← e) (record { outcome = refl; count = refl; state = r.is; buffer = refl })

-- a step, by the parts of the state before and after it
module _ (n k : ℕ) (page : List ℕ) (len : ℕ) (environment temporary permanent trail guard hand wanted : List ℕ) (unit place : ℕ) (w : Counted)
    (inv : steps (n - k) k (card (laid page len environment temporary permanent trail guard hand wanted unit place)) ≡ w) (r : Ready (laid page len environment temporary permanent trail guard hand wanted unit place)) (h : k < n)
    (took : Took) (environment' temporary' permanent' trail' hand' wanted' before after : List ℕ)
    (leads : (g : List ℕ) → Ready (laid page len environment temporary permanent trail g hand wanted unit place) → Leads took (laid page len environment temporary permanent trail g hand wanted unit place) (laid page len environment' temporary' permanent' trail' g hand' wanted' unit place) before after)
    (first : List ℕ) (same : before ≡ first) where
  abbrev m : State
  m = laid page len environment temporary permanent trail guard hand wanted unit place

  abbrev o : State
  o = laid page len environment' temporary' permanent' trail' guard hand' wanted' unit place

  led : Leads took m o before after
  led = leads guard r

  buffer : after ≡ buffer_after first (stepped (card m)).card (stepped (card m)).outcome
  buffer = rw same at led.buffer

  -- the step goes on
  module _ (unit' place' : ℕ) (x : took ≡ On unit' place') where
    abbrev next : State
    next = laid page len environment' temporary' permanent' trail' guard hand' wanted' unit' place'

    comes : Comes (record { state = next; outcome = GoneOn }) (stepped (card m))
    comes = rw x at led.stands

    goes : goes_on (stepped (card m)).outcome ≡ true
    unfolding goes_on
    goes = rw (← comes.outcome) refl

    pub on_steps : steps (n - (k + 1)) (k + 1) (card next) ≡ w
    unfolding steps
    on_steps = rw (is_card_lem next (stepped (card m)).card comes.state) (rw (one_less n k h, goes) at inv)

    pub on_ready : Ready next
    on_ready =
        let e = is_card_lem next (stepped (card m)).card comes.state in
        let p = stepped_on (card m) goes in
        let nonempty : length (stepped (card m)).card.run.page ≡ 0 → ⊥ = λ z. filled (card m).run.page r.runs.accepted (rw p.0 at z) in
        record {
          is = rw e comes.state;
          runs = rw e (card_running (stepped (card m)).card (stepped_card (card m) r.runs) nonempty).0;
          idle = rw e p.1;
        }

    pub on_same : after ≡ first
    unfolding buffer_after
    on_same = rw (← comes.outcome) at buffer

    pub on_room : 255 ≤ length before → 255 ≤ length after
    on_room l = rw (on_same, ← same) l

  -- the step ends the run in a state that is its card
  stops_at : goes_on (stepped (card m)).outcome ≡ false → (end : State) → Is end (stepped (card m)).card → (outcome : Outcome) → outcome ≡ (stepped (card m)).outcome → Counts (record { state = end; ran = record { outcome = outcome; count = k + 1 } }) first after w
  unfolding steps
  stops_at off end is outcome x =
      let e : record { count = k + 1; last = stepped (card m) } ≡ w = rw (one_less n k h, off) at inv in
      rw (← e) (record { outcome = x; count = refl; state = is; buffer = buffer })

  -- a command went out
  pub sent_counts : (number : ℕ) → took ≡ Sent number → Counts (record { state = o; ran = record { outcome = Command number; count = k + 1 } }) first after w
  unfolding goes_on
  sent_counts number x =
      let c : Comes (record { state = o; outcome = Command number }) (stepped (card m)) = rw x at led.stands in
      stops_at (rw (← c.outcome) refl) o c.state (Command number) c.outcome

  -- the page ends, by the keep rule
  pub end_counts : (outcome : Outcome) → took ≡ Ends outcome
      → (kept : List ℕ) → slots kept ≡ kept_by (take len page) (keep_list (take len page)) (slots temporary') → (tidy_slots temporary' ≡ true → tidy_slots kept ≡ true)
      → (guard' : List ℕ) → (length (bytes_of (take len page) (password (take len page))) ≤ 16 → guard_of guard' ≡ guard_by (take len page) (password (take len page))) → (tidy_guard guard ≡ true → tidy_guard guard' ≡ true)
      → (end : Course) → end ≡ record { state = laid (blank 4096) 0 environment' kept permanent' trail' guard' (blank 257) wanted' 0 0; ran = record { outcome = outcome; count = k + 1 } } → Counts end first after w
  end_counts outcome x kept a u guard' b v end y =
      let e = rw x at led.stands in
      rw y (stops_at (rw e.rests e.stops) _ (rw e.rests (rest_is o (card o) e.is (accepted_password (card o).run.page e.accepted) (blank 4096) kept guard' (blank 257) (take len page) refl a u b v refl refl)) outcome (rw e.rests refl))

pub ruleset run_laws = (steps_start, ready_accepted)
