-- A run and a read, in the shape of what their proofs need.
-- Assumes nothing.
use Prim.Native.Nat.{ℕ, ◌≤◌, ◌<◌}
use mathlib.Core.Bool.{Bool, true, false, cond, true≢false}
use mathlib.Core.List.{List, []}
use mathlib.Core.Path.{◌≡◌, refl, sym, ap, ◌∙◌}
use lib.ListN.{length, replicate, take}
use lib.Dec.{eqb}
use borrow.Author.Tests.{lt-leb, le-leb}
use Rattle.rules.specs.declared.Outcome.{Outcome}
use Rattle.rules.specs.declared.Outcome.TheVariants.{On, Command, Page, Ended, Refused}
use Rattle.rules.specs.declared.Refusal.TheVariants.{Buffer, Call, State as NoCard}
use Rattle.rules.specs.declared.Shown.{Shown}
use Rattle.rules.specs.Numbers.{number}
use Rattle.rules.specs.Card.{Card}
use Rattle.rules.specs.Store.{area}
use Rattle.rules.specs.IsCard.{is_card}
use Rattle.rules.specs.Step.{Effect, effect, stepped}
use Rattle.rules.specs.Page.{code_at}
use Rattle.rules.specs.Calls.{step, run_up_to, read_variable, taken, ran, shown, buffer_after, reference_after, tag_of, ready, admitted, lends, Counted, goes_on, steps, run_done, run_refused, seen, hidden, display, read_done, act}
use Rattle.rules.proofs.StaysCardStep.{Running}
use Rattle.word.specs.Word.{is_marked}
use Rattle.reading.specs.Strings.{ShortStrings}
use Rattle.reading.proofs.CardStrings.{card_strings}
use Rattle.state.specs.declared.State.{State}
use Rattle.state.specs.State.{Is, card, card_of}
use Rattle.state.proofs.Canonical.{is_card_lem}
use Rattle.sending.specs.Sent.{Sends}
use Rattle.machine.specs.declared.Machine.{Machine}
use Rattle.parts.specs.declared.Course.{Course}
use Rattle.machine.specs.declared.Gone.{Gone}
use Rattle.machine.specs.Meets.{Meets}
use Rattle.stepping.specs.Took.{Ready}
use Rattle.running.specs.Course.{Counts}
use Rattle.machine.proofs.Parts.{sound_is, ready_is, runs_fine, ready_runs, ready_empty}
use Rattle.machine.proofs.CallLaws.{same_meets, step_taken}

ran_same : (o o' : Outcome) (k k' : ℕ) (a a' r r' : List ℕ) → o ≡ o' → k ≡ k' → a ≡ a' → r ≡ r' → ran (record { outcome = o; count = k }) a r ≡ ran (record { outcome = o'; count = k' }) a' r'
ran_same o o' k k' a a' r r' e f g h = rw (e, f, g, h) refl

module _ (m : Machine) (most : ℕ) (before : List ℕ) where
  pub run_short : length before < 255 → (g : Gone) → g ≡ record { machine = m; ran = record { outcome = Refused Buffer; count = 0 } } → Meets (run_up_to most before) m (ran g.ran before (reference_after (card g.machine.state) g.ran.outcome)) g.machine
  unfolding act admitted run_refused lends reference_after
  run_short l g x = rw x (same_meets m (run_up_to most before) (ran (record { outcome = Refused Buffer; count = 0 }) before []) (rw (lt-leb _ _ l) refl))

  module _ (l : 255 ≤ length before) (b : Bool) (e : b ≡ is_card (card_of m.state)) (g : Gone) where
    pub run_none : b ≡ false → g ≡ record { machine = m; ran = record { outcome = Refused NoCard; count = 0 } } → Meets (run_up_to most before) m (ran g.ran before (reference_after (card g.machine.state) g.ran.outcome)) g.machine
    unfolding act admitted run_refused lends reference_after
    run_none t x = rw x (same_meets m (run_up_to most before) (ran (record { outcome = Refused NoCard; count = 0 }) before []) (rw (le-leb _ _ l, sym e ∙ t) refl))

    module _ (t : b ≡ true) (r : Bool) (x : r ≡ cond (eqb m.state.len 0) false (cond (is_marked m.state.hand) false true)) where
      is : Is m.state (card_of m.state)
      is = sound_is m.state (sym e ∙ t)

      ready_now : ready (card_of m.state) ≡ r
      ready_now = ready_is m.state (card_of m.state) is ∙ sym x

      pub run_unready : r ≡ false → g ≡ record { machine = m; ran = record { outcome = Refused Call; count = 0 } } → Meets (run_up_to most before) m (ran g.ran before (reference_after (card g.machine.state) g.ran.outcome)) g.machine
      unfolding act admitted run_refused lends reference_after
      run_unready y z = rw z (same_meets m (run_up_to most before) (ran (record { outcome = Refused Call; count = 0 }) before []) (rw (le-leb _ _ l, sym e ∙ t, ready_now, y) refl))

      pub run_done_lem : r ≡ true → (k : Course) (after : List ℕ) → Counts k before after (steps most 0 (card m.state)) → Meets (run_up_to most before) m (ran k.ran after (reference_after (card k.state) k.ran.outcome)) (record { state = k.state })
      unfolding act admitted run_done lends
      run_done_lem y k after n =
          let w = steps most 0 (card m.state) in
          let v : (card_of m.state) ≡ card m.state = sym (is_card_lem m.state (card_of m.state) is) in
          let q = is_card_lem k.state w.last.card n.state in
          record {
            answered = rw (le-leb _ _ l, sym e ∙ t, ready_now, y) (ran_same _ _ _ _ _ _ _ _ (n.outcome ∙ ap (λ (d : Card). (steps most 0 d).last.outcome) (sym v)) (n.count ∙ ap (λ (d : Card). (steps most 0 d).count) (sym v)) (n.buffer ∙ ap (λ (d : Card). buffer_after before (steps most 0 d).last.card (steps most 0 d).last.outcome) (sym v)) (rw (q, n.outcome) (ap (λ (d : Card). reference_after (steps most 0 d).last.card (steps most 0 d).last.outcome) (sym v))));
            goes = λ _. rw (le-leb _ _ l, sym e ∙ t, ready_now, y) (rw v n.state);
            stays = λ h. absurd (true≢false (sym (sym e ∙ t) ∙ h));
          }

-- where a call runs steps, the state is ready
pub run_ready_at : (m : State) (b : Bool) → b ≡ is_card (card_of m) → b ≡ true → (r : Bool) → r ≡ true → r ≡ cond (eqb m.len 0) false (cond (is_marked m.hand) false true) → Ready m
run_ready_at m b e t r y x =
    let is = sound_is m (sym e ∙ t) in
    let v = is_card_lem m (card_of m) is in
    record {
      is = rw v is;
      runs = rw v (runs_fine m (card_of m) is (sym e ∙ t) (ready_runs m b e t r y x));
      idle = rw v (ready_empty m b e t r y x);
    }

-- a step is a run of one
one_last : (c : Card) (o : Outcome) → (cond {A = Counted} (goes_on o) (record { count = 1; last = effect On c }) (record { count = 1; last = effect o c })).last ≡ effect o c
unfolding goes_on
one_last c On = refl
one_last c (Command n) = refl
one_last c Page = refl
one_last c Ended = refl
one_last c (Refused r) = refl

last_is : (c : Card) → (steps 1 0 c).last ≡ stepped c
unfolding steps
last_is c = one_last (stepped c).card (stepped c).outcome

one_taken : (m : State) (k : Course) (before after : List ℕ) → Counts k before after (steps 1 0 (card m)) → ((d : Card) → Is m d → Running d → Sends (record { state = k.state; outcome = k.ran.outcome }) before after (stepped d))
one_taken m k before after n d is r =
    let e : (steps 1 0 (card m)).last ≡ stepped d = last_is (card m) ∙ rw (is_card_lem m d is) refl in
    record {
      comes = record { outcome = n.outcome ∙ ap (λ (x : Effect). x.outcome) e; state = rw (← e) n.state };
      buffer = n.buffer ∙ ap (λ (x : Effect). buffer_after before x.card x.outcome) e;
    }

pub step_run : (m : Machine) (b : Bool) → b ≡ is_card (card_of m.state) → (before : List ℕ) → 255 ≤ length before → b ≡ true → (r : Bool) → r ≡ cond (eqb m.state.len 0) false (cond (is_marked m.state.hand) false true) → r ≡ true
    → (k : Course) (after : List ℕ) (tag : ℕ) → tag ≡ tag_of (code_at (take m.state.len m.state.page) m.state.unit m.state.place) → Counts k before after (steps 1 0 (card m.state))
    → Meets (step before) m (taken (record { outcome = k.ran.outcome; unit = m.state.unit; tag = tag }) after (reference_after (card k.state) k.ran.outcome)) (record { state = k.state })
step_run m b e before l t r x y k after tag z n =
    step_taken m b e before l t r x y after (record { state = k.state; outcome = k.ran.outcome }) tag z (one_taken m.state k before after n)

pub none_shown : (s : Shown) → s ≡ record { number = 35; valuetype = 0; length = 0; bytes = replicate 255 0 } → s ≡ hidden NoCard
unfolding hidden number
none_shown s e = e

module _ (m : Machine) (b : Bool) (e : b ≡ is_card (card_of m.state)) (n : ℕ) (id : List ℕ) (s : Shown) where
  pub read_none : b ≡ false → s ≡ hidden NoCard → Meets (read_variable n id) m (shown s) m
  unfolding act read_done
  read_none t x = same_meets m (read_variable n id) (shown s) (rw (sym e ∙ t, x) refl)

  pub read_done_lem : b ≡ true → ((c : Card) → Is m.state c → ShortStrings c → s ≡ display (seen (area n) c n id)) → Meets (read_variable n id) m (shown s) m
  unfolding act read_done
  read_done_lem t f = same_meets m (read_variable n id) (shown s) (rw (sym e ∙ t, f (card_of m.state) (sound_is m.state (sym e ∙ t)) (card_strings (card_of m.state) (sym e ∙ t))) refl)
