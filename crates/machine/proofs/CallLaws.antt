-- The host's calls, in the shape of what their proofs need.
-- Assumes nothing.
use Rattle.rules.specs.declared.LoadError.TheVariants.{Faulty}
use Prim.Native.Nat.{ℕ, ◌≤◌, ◌<◌}
use mathlib.Core.Bool.{Bool, true, false, cond, true≢false}
use mathlib.Core.List.{List, []}
use mathlib.Core.Path.{◌≡◌, refl, sym, ap, ◌∙◌}
use native.Mathlib.Omega.{arith}
use lib.ListN.{length, set, take}
use lib.Dec.{eqb, ltb}
use borrow.Author.Tests.{eq-eqb, ne_eqb, lt-ltb, le-ltb, lt-leb, le-leb, eqb-true, ltb-false}
use Rattle.leaf.proofs.Cases.{both}
use Rattle.rules.specs.declared.Outcome.{Outcome}
use Rattle.rules.specs.declared.Outcome.TheVariants.{Refused}
use Rattle.rules.specs.declared.Refusal.TheVariants.{Memory, Security, Buffer, Call, Response, State as NoCard}
use Rattle.rules.specs.declared.Stepped.{Stepped}
use Rattle.rules.specs.Loader.{judge}
use Rattle.rules.specs.Page.{bytes_of, password, code_at}
use Rattle.rules.specs.Card.{held, Card, runs, is_empty, with_environment}
use Rattle.rules.specs.Keep.{rested, started}
use Rattle.rules.specs.IsCard.{is_card}
use Rattle.rules.specs.Command.{reply}
use Rattle.rules.specs.Step.{here, stepped, answered}
use Rattle.rules.specs.Calls.{Asked, set_environment, load, step, respond, end, Answer, told, loaded, taken, responded, Did, did, reference_after, tag_of, ready, waiting, admitted, lends, load_by, load_refused, step_done, step_refused, respond_done, respond_refused, respond_by, told_refused, environment_done, act}
use Rattle.rules.proofs.StaysCardStep.{Running}
use Rattle.leaving.proofs.Accepted.{accepted_password}
use Rattle.slots.specs.Slots.{slots, tidy_slots}
use Rattle.word.specs.Word.{is_marked}
use Rattle.state.specs.declared.State.{State}
use Rattle.state.specs.State.{Is, card, card_of, page_of}
use Rattle.state.proofs.Canonical.{is_card_lem}
use Rattle.state.proofs.Changes.{new_environment}
use Rattle.moving.specs.declared.Moved.{Moved}
use Rattle.sending.specs.Sent.{Sends}
use Rattle.machine.specs.declared.Machine.{Machine}
use Rattle.machine.specs.Meets.{Meets}
use Rattle.machine.proofs.Parts.{sound_is, rests, runs_on, ready_is, waiting_is, runs_fine, ready_runs, waiting_runs, waiting_held}
use Rattle.std.specs.Prelude.{Option, None, Result, Ok, Err, Some}
use Rattle.rules.specs.declared.Tlv.{Tlv}
use Rattle.rules.specs.declared.Rejection.{Rejection}
use Rattle.rules.specs.Built.{reject, unloaded}
use Rattle.rules.specs.declared.Reply.{Reply}

taken_same : (o o' : Outcome) (k k' t t' : ℕ) (a a' r r' : List ℕ) → o ≡ o' → k ≡ k' → t ≡ t' → a ≡ a' → r ≡ r' → taken (record { outcome = o; unit = k; tag = t }) a r ≡ taken (record { outcome = o'; unit = k'; tag = t' }) a' r'
taken_same o o' k k' t t' a a' r r' e f g h i = rw (e, f, g, h, i) refl

tag_same : (p p' : List ℕ) (k k' l l' : ℕ) → p ≡ p' → k ≡ k' → l ≡ l' → tag_of (code_at p k l) ≡ tag_of (code_at p' k' l')
tag_same p p' k k' l l' e f g = rw (e, f, g) refl

module _ (m : Machine) where
  -- an answer that leaves all as it was
  pub same_meets : (k : Asked) (a : Answer) → act k (card_of m.state) ≡ did a (card_of m.state) → Meets k m a m
  same_meets k a e = record { answered = sym (ap (λ (d : Did). d.answer) e); goes = λ h. rw e (sound_is m.state h); stays = λ _. refl }

  done_meets : (k : Asked) (a : Answer) (after : Machine) (d : Did) → is_card (card_of m.state) ≡ true → act k (card_of m.state) ≡ d → a ≡ d.answer → Is after.state d.card → Meets k m a after
  done_meets k a after d t e f is = record { answered = f ∙ sym (ap (λ (x : Did). x.answer) e); goes = λ _. rw e is; stays = λ h. absurd (true≢false (sym t ∙ h)) }

  pub step_short : (before : List ℕ) → length before < 255 → (s : Stepped) → s ≡ record { outcome = Refused Buffer; unit = 0; tag = 0 } → Meets (step before) m (taken s before (reference_after (card m.state) s.outcome)) m
  unfolding act admitted step_refused lends reference_after
  step_short before l s x = rw x (same_meets (step before) (taken (record { outcome = Refused Buffer; unit = 0; tag = 0 }) before []) (rw (lt-leb _ _ l) refl))

  pub respond_short : (w before : List ℕ) → length before < 255 → Meets (respond w before) m (responded (Refused Buffer) before (reference_after (card m.state) (Refused Buffer))) m
  unfolding act admitted respond_refused lends reference_after
  respond_short w before l = same_meets (respond w before) (responded (Refused Buffer) before []) (rw (lt-leb _ _ l) refl)

  module _ (b : Bool) (e : b ≡ is_card (card_of m.state)) where
    none : b ≡ false → is_card (card_of m.state) ≡ false
    none t = sym e ∙ t

    some : b ≡ true → is_card (card_of m.state) ≡ true
    some t = sym e ∙ t

    resting : b ≡ true → m.state.len ≡ 0 → runs (card_of m.state) ≡ false
    resting t = rests m.state (card_of m.state) (sound_is m.state (some t))

    running : b ≡ true → (m.state.len ≡ 0 → ⊥) → runs (card_of m.state) ≡ true
    running t = runs_on m.state (card_of m.state) (sound_is m.state (some t))

    pub end_none : b ≡ false → Meets end m (told (Err NoCard)) m
    unfolding act admitted told_refused
    end_none t = same_meets end (told (Err NoCard)) (rw (none t) refl)

    pub end_rests : b ≡ true → m.state.len ≡ 0 → Meets end m (told (Err Call)) m
    unfolding act admitted told_refused
    end_rests t n = same_meets end (told (Err Call)) (rw (some t, resting t n) refl)

    pub end_done : b ≡ true → (m.state.len ≡ 0 → ⊥) → (r : State) → ((d : Card) → Is m.state d → length (bytes_of d.run.page (password d.run.page)) ≤ 16 → Is r (rested d)) → Meets end m (told (Ok tt)) (record { state = r })
    unfolding act admitted
    end_done t n r f =
        let is = sound_is m.state (some t) in
        done_meets end (told (Ok tt)) (record { state = r }) (did (told (Ok tt)) (rested (card_of m.state))) (some t) (rw (some t, running t n) refl) refl
        (f (card_of m.state) is (accepted_password (card_of m.state).run.page (runs_fine m.state (card_of m.state) is (some t) n).accepted))

    module _ (number : ℕ) (value : List ℕ) where
      pub set_none : b ≡ false → Meets (set_environment number value) m (told (Err NoCard)) m
      unfolding act admitted told_refused
      set_none t = same_meets (set_environment number value) (told (Err NoCard)) (rw (none t) refl)

      pub set_runs : b ≡ true → (m.state.len ≡ 0 → ⊥) → Meets (set_environment number value) m (told (Err Call)) m
      unfolding act admitted told_refused
      set_runs t n = same_meets (set_environment number value) (told (Err Call)) (rw (some t, running t n) refl)

      module _ (t : b ≡ true) (n : m.state.len ≡ 0) where
        reaches : act (set_environment number value) (card_of m.state) ≡ environment_done number value (card_of m.state)
        unfolding act admitted
        reaches = rw (some t, resting t n) refl

        pub set_high : 0x3F < number → Meets (set_environment number value) m (told (Err Security)) m
        unfolding environment_done told_refused
        set_high h = same_meets (set_environment number value) (told (Err Security)) (reaches ∙ rw (lt-ltb _ _ h) refl)

        module _ (h : number ≤ 0x3F) where
          pub set_five : number ≡ 5 → Meets (set_environment number value) m (told (Err Security)) m
          unfolding environment_done told_refused
          set_five x = same_meets (set_environment number value) (told (Err Security)) (reaches ∙ rw (le-ltb _ _ h, eq-eqb _ _ x) refl)

          module _ (x : number ≡ 5 → ⊥) where
            pub set_long : 255 < length value → Meets (set_environment number value) m (told (Err Memory)) m
            unfolding environment_done told_refused
            set_long l = same_meets (set_environment number value) (told (Err Memory)) (reaches ∙ rw (le-ltb _ _ h, ne_eqb _ _ x, lt-ltb _ _ l) refl)

            pub set_done : length value ≤ 255 → (k : ℕ) → k ≡ number → (environment : List ℕ) → slots environment ≡ set (slots m.state.environment) k (held 3 value) → (tidy_slots m.state.environment ≡ true → tidy_slots environment ≡ true)
                → Meets (set_environment number value) m (told (Ok tt)) (record { state = record { page = m.state.page; len = m.state.len; environment = environment; temporary = m.state.temporary; permanent = m.state.permanent; trail = m.state.trail; guard = m.state.guard; hand = m.state.hand; wanted = m.state.wanted; unit = m.state.unit; place = m.state.place } })
            unfolding environment_done
            set_done l k y environment f i =
                let is = sound_is m.state (some t) in
                done_meets (set_environment number value) (told (Ok tt)) (record { state = record { page = m.state.page; len = m.state.len; environment = environment; temporary = m.state.temporary; permanent = m.state.permanent; trail = m.state.trail; guard = m.state.guard; hand = m.state.hand; wanted = m.state.wanted; unit = m.state.unit; place = m.state.place } })
                (did (told (Ok tt)) (with_environment (card_of m.state) (set (card_of m.state).environment number (held 3 value)))) (some t) (reaches ∙ rw (le-ltb _ _ h, ne_eqb _ _ x, le-ltb _ _ l) refl) refl
                (new_environment _ _ is environment _ (rw (← is.environment, ← y) f) (i is.tidy_environment))

    module _ (s : List ℕ) where
      pub load_none : b ≡ false → Meets (load s) m (loaded (unloaded NoCard)) m
      unfolding act admitted load_refused
      load_none t = same_meets (load s) (loaded (unloaded NoCard)) (rw (none t) refl)

      pub load_runs : b ≡ true → (m.state.len ≡ 0 → ⊥) → Meets (load s) m (loaded (unloaded Call)) m
      unfolding act admitted load_refused
      load_runs t n = same_meets (load s) (loaded (unloaded Call)) (rw (some t, running t n) refl)

      module _ (t : b ≡ true) (n : m.state.len ≡ 0) (j : Result (Unit {0}) Rejection) (y : j ≡ judge s) where
        loads : act (load s) (card_of m.state) ≡ load_by s (card_of m.state) j
        unfolding act admitted
        loads = rw (some t, resting t n, y) refl

        pub load_faulty : (v : Rejection) → j ≡ Err v → Meets (load s) m (loaded (Err (Faulty v))) m
        unfolding load_by
        load_faulty v x = same_meets (load s) (loaded (Err (Faulty v))) (loads ∙ rw x refl)

        pub load_started : j ≡ Ok tt → (r : State) → ((d : Card) → Is m.state d → Is r (started s d)) → Meets (load s) m (loaded (Ok tt)) (record { state = r })
        unfolding load_by
        load_started x r f = done_meets (load s) (loaded (Ok tt)) (record { state = r }) (did (loaded (Ok tt)) (started s (card_of m.state))) (some t) (loads ∙ rw x refl) refl (f (card_of m.state) (sound_is m.state (some t)))

    module _ (before : List ℕ) where
      module _ (l : 255 ≤ length before) where
        pub step_none : b ≡ false → (s : Stepped) → s ≡ record { outcome = Refused NoCard; unit = 0; tag = 0 } → Meets (step before) m (taken s before (reference_after (card m.state) s.outcome)) m
        unfolding act admitted step_refused lends reference_after
        step_none t s x = rw x (same_meets (step before) (taken (record { outcome = Refused NoCard; unit = 0; tag = 0 }) before []) (rw (le-leb _ _ l, none t) refl))

        module _ (t : b ≡ true) (r : Bool) (x : r ≡ cond (eqb m.state.len 0) false (cond (is_marked m.state.hand) false true)) where
          ready_now : ready (card_of m.state) ≡ r
          ready_now = ready_is m.state (card_of m.state) (sound_is m.state (some t)) ∙ sym x

          pub step_unready : r ≡ false → (s : Stepped) → s ≡ record { outcome = Refused Call; unit = 0; tag = 0 } → Meets (step before) m (taken s before (reference_after (card m.state) s.outcome)) m
          unfolding act admitted step_refused lends reference_after
          step_unready y s z = rw z (same_meets (step before) (taken (record { outcome = Refused Call; unit = 0; tag = 0 }) before []) (rw (le-leb _ _ l, some t, ready_now, y) refl))

          pub step_taken : r ≡ true → (after : List ℕ) (o : Moved) (tag : ℕ) → tag ≡ tag_of (code_at (take m.state.len m.state.page) m.state.unit m.state.place) → ((d : Card) → Is m.state d → Running d → Sends o before after (stepped d))
              → Meets (step before) m (taken (record { outcome = o.outcome; unit = m.state.unit; tag = tag }) after (reference_after (card o.state) o.outcome)) (record { state = o.state })
          unfolding act admitted step_done lends here page_of
          step_taken y after o tag z f =
              let is = sound_is m.state (some t) in
              let g = f (card_of m.state) is (runs_fine m.state (card_of m.state) is (some t) (ready_runs m.state b e t r y x)) in
              let k = is_card_lem o.state (stepped (card_of m.state)).card g.comes.state in
              done_meets (step before) (taken (record { outcome = o.outcome; unit = m.state.unit; tag = tag }) after (reference_after (card o.state) o.outcome)) (record { state = o.state })
              (step_done before (card_of m.state) (stepped (card_of m.state))) (some t) (rw (le-leb _ _ l, some t, ready_now, y) refl)
              (taken_same _ _ _ _ _ _ _ _ _ _ g.comes.outcome is.unit (z ∙ tag_same _ _ _ _ _ _ is.page is.unit is.place) g.buffer (rw (k, g.comes.outcome) refl)) g.comes.state

      module _ (w : List ℕ) where
        module _ (l : 255 ≤ length before) where
          pub respond_none : b ≡ false → Meets (respond w before) m (responded (Refused NoCard) before (reference_after (card m.state) (Refused NoCard))) m
          unfolding act admitted respond_refused lends reference_after
          respond_none t = same_meets (respond w before) (responded (Refused NoCard) before []) (rw (le-leb _ _ l, none t) refl)

          module _ (t : b ≡ true) (r : Bool) (x : r ≡ cond (eqb m.state.len 0) false (is_marked m.state.hand)) where
            waiting_now : waiting (card_of m.state) ≡ r
            waiting_now = waiting_is m.state (card_of m.state) (sound_is m.state (some t)) ∙ sym x

            pub respond_unasked : r ≡ false → Meets (respond w before) m (responded (Refused Call) before (reference_after (card m.state) (Refused Call))) m
            unfolding act admitted respond_refused lends reference_after
            respond_unasked y = same_meets (respond w before) (responded (Refused Call) before []) (rw (le-leb _ _ l, some t, waiting_now, y) refl)

            module _ (y : r ≡ true) (p : Option Reply) (z : p ≡ reply w) where
              responds : act (respond w before) (card_of m.state) ≡ respond_by w before (card_of m.state) p
              unfolding act admitted lends
              responds = rw (le-leb _ _ l, some t, waiting_now, y, z) refl

              pub respond_malformed : p ≡ None → Meets (respond w before) m (responded (Refused Response) before (reference_after (card m.state) (Refused Response))) m
              unfolding respond_by respond_refused reference_after
              respond_malformed v = same_meets (respond w before) (responded (Refused Response) before []) (responds ∙ rw v refl)

              pub respond_done_lem : (a : Reply) → p ≡ Some a → (after : List ℕ) (o : Moved) → ((d : Card) → Is m.state d → Running d → is_empty d.run.hand ≡ false → Sends o before after (answered d a.general w a.after))
                  → Meets (respond w before) m (responded o.outcome after (reference_after (card o.state) o.outcome)) (record { state = o.state })
              unfolding respond_by respond_done
              respond_done_lem a v after o f =
                  let is = sound_is m.state (some t) in
                  let q = f (card_of m.state) is (runs_fine m.state (card_of m.state) is (some t) (waiting_runs m.state b e t r y x)) (waiting_held m.state b e t r y x) in
                  let k = is_card_lem o.state (answered (card_of m.state) a.general w a.after).card q.comes.state in
                  done_meets (respond w before) (responded o.outcome after (reference_after (card o.state) o.outcome)) (record { state = o.state })
                  (respond_done before (answered (card_of m.state) a.general w a.after)) (some t) (responds ∙ rw v refl)
                  (rw (k, q.comes.outcome, ← q.buffer) refl) q.comes.state

pub tag_none : (s : List ℕ) (p : List ℕ) → s ≡ p → (k place : ℕ) (h : Option Tlv) → h ≡ code_at s k place → h ≡ None → 0 ≡ tag_of (code_at p k place)
unfolding tag_of
tag_none s p e k place h f x = sym (rw (← e, ← f, x) refl)

pub tag_held : (s : List ℕ) (p : List ℕ) → s ≡ p → (k place : ℕ) (h : Option Tlv) → h ≡ code_at s k place → (v : Tlv) → h ≡ Some v → v.tag ≡ tag_of (code_at p k place)
unfolding tag_of
tag_held s p e k place h f v x = sym (rw (← e, ← f, x) refl)

accepted_long : (s : List ℕ) → judge s ≡ Ok tt → length s ≤ 4096
unfolding judge
accepted_long s e =
    both (eqb (length s) 0)
    (λ t. let z : length s ≡ 0 = eqb-true (length s) 0 t in omega arith)
    (λ t. both (ltb 4096 (length s))
    (λ u. let v : reject 1 0 ≡ Ok tt = rw (t, u) at e in let z : ◌≡◌ {A = ℕ} 0 1 = cc in absurd (omega arith))
    (λ u. ltb-false 4096 (length s) u))

pub accepted_size : (s : List ℕ) (j : Result (Unit {0}) Rejection) → j ≡ judge s → j ≡ Ok tt → length s ≤ 4096
accepted_size s j e x = accepted_long s (sym e ∙ x)
