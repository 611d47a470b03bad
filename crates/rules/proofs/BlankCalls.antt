-- The host's calls on a card whose hidden values are blanked: the same answers, and the hidden records stay.
-- Assumes nothing.
use mathlib.Core.Path.{◌≡◌, refl}
use mathlib.Core.Bool.{Bool, false}
use mathlib.Core.List.{List, [], ◌∷◌}
use Prim.Native.Nat.{ℕ, zero, suc, ◌+◌}
use lib.ListN.{length}
use lib.Dec.{ltb, eqb}
use Rattle.rules.specs.Loader.{judge}
use Rattle.rules.specs.Page.{service}
use Rattle.rules.specs.Card.{Record, Hand, empty, by_code, Card, with_environment, with_temporary, with_guard, with_run, with_wanted, runs}
use Rattle.rules.specs.Store.{Area, environmental, permanently, temporarily, string, area, longest, writing}
use Rattle.rules.specs.Keep.{rested, started}
use Rattle.rules.specs.Command.{result_complaint, reply}
use Rattle.rules.specs.Step.{ByteCode, setting_variables, going_back, branching, exiting, executing, getting_length, unknown, byte_code, Effect, here, stepped}
use Rattle.rules.specs.IsCard.{sends_by, sends, hand_fine, run_fine, areas_fine, is_card}
use Rattle.rules.specs.Calls.{Asked, create, set_environment, load, step, run_up_to, respond, end, read_variable, Answer, Did, did, buffer_after, reference_after, ready, waiting, admitted, load_by, load_refused, step_done, step_refused, Counted, goes_on, steps, run_done, run_refused, respond_done, respond_refused, respond_by, told_refused, environment_done, seen, read_done, act}
use Rattle.rules.specs.declared.Refusal.{Refusal}
use Rattle.rules.specs.declared.Refusal.TheVariants.{Buffer, Call, State}
use Rattle.rules.specs.declared.Outcome.{Outcome}
use Rattle.rules.specs.declared.Outcome.TheVariants.{On, Command, Page, Ended, Refused}
use Rattle.rules.proofs.BlankTests.{two_cond}
use Rattle.rules.proofs.BlankStore.{length_veils, records_veil, room_veil, look_veil}
use Rattle.rules.proofs.BlankStep.{see, see_effect, Safe, Effects, rested_safe, stepped_ok, answered_ok}
use Rattle.std.specs.Prelude.{Option, Some, None, Result, Ok, Err}
use Rattle.rules.specs.declared.Tlv.{Tlv}
use Rattle.rules.specs.declared.Rejection.{Rejection}
use Rattle.rules.specs.declared.Reply.{Reply}

-- number 35 does not look at what is hidden
module _ (hides : List ℕ → Bool) (c : Card) where
  sends_by_see : (tag start stop : ℕ) (b : ByteCode) → sends_by (see hides c) tag start stop b ≡ sends_by c tag start stop b
  unfolding sends_by result_complaint writing
  sends_by_see tag start stop setting_variables = refl
  sends_by_see tag start stop going_back = refl
  sends_by_see tag start stop branching = refl
  sends_by_see tag start stop exiting = refl
  sends_by_see tag start stop executing = refl
  sends_by_see tag start stop getting_length = refl
  sends_by_see tag start stop unknown = refl

  sends_see : (h : Option Tlv) → sends (see hides c) h ≡ sends c h
  unfolding sends
  sends_see (Some h) = sends_by_see h.tag h.start h.stop (byte_code h.tag)
  sends_see None = refl

  hand_fine_see : (h : Hand) → hand_fine (see hides c) h ≡ hand_fine c h
  unfolding hand_fine here
  hand_fine_see empty = refl
  hand_fine_see (by_code b) = rw (sends_see (here c))

  run_fine_see : (s : List ℕ) → run_fine (see hides c) s ≡ run_fine c s
  unfolding run_fine
  run_fine_see [] = refl
  run_fine_see (x ∷ xs) = rw (hand_fine_see c.run.hand)

  pub is_card_see : is_card (see hides c) ≡ is_card c
  unfolding is_card areas_fine
  is_card_see = rw (length_veils hides c.permanent, records_veil hides c.permanent, room_veil hides c.permanent, run_fine_see c.run.page)

  buffer_after_see : (buffer : List ℕ) (o : Outcome) → buffer_after buffer (see hides c) o ≡ buffer_after buffer c o
  unfolding buffer_after
  buffer_after_see buffer On = refl
  buffer_after_see buffer (Command n) = refl
  buffer_after_see buffer Page = refl
  buffer_after_see buffer Ended = refl
  buffer_after_see buffer (Refused r) = refl

  reference_after_see : (o : Outcome) → reference_after (see hides c) o ≡ reference_after c o
  unfolding reference_after
  reference_after_see On = refl
  reference_after_see (Command n) = refl
  reference_after_see Page = refl
  reference_after_see Ended = refl
  reference_after_see (Refused r) = refl

  seen_see : (a : Area) (n : ℕ) (id : List ℕ) → (a ≡ permanently → hides id ≡ false) → seen a (see hides c) n id ≡ seen a c n id
  unfolding seen
  seen_see environmental n id h = refl
  seen_see permanently n id h = rw (look_veil hides id n (h refl) c.permanent)
  seen_see temporarily n id h = refl
  seen_see string n id h = refl

  pub read_done_see : (n : ℕ) (id : List ℕ) → (area n ≡ permanently → hides id ≡ false) → read_done n id (see hides c) ≡ read_done n id c
  unfolding read_done
  read_done_see n id h = rw (is_card_see, seen_see (area n) n id h)

-- a call on the card as it is seen, beside the call on the card itself
pub record Calls (hides : List ℕ → Bool) (m : List Record) (x y : Did) : Type 0 where
  pub sees : x ≡ did y.answer (see hides y.card)
  pub safe : Safe hides m y.card

record Runs (hides : List ℕ → Bool) (m : List Record) (x y : Counted) : Type 0 where
  sees : x ≡ record { count = y.count; last = see_effect hides y.last }
  safe : Safe hides m y.last.card

-- a call that does not ask for what is hidden
abbrev pub Quiet : (List ℕ → Bool) → Asked → Type 0
Quiet hides create = ⊥
Quiet hides (set_environment n value) = Unit {0}
Quiet hides (load s) = hides (service s) ≡ false
Quiet hides (step buffer) = Unit {0}
Quiet hides (run_up_to n buffer) = Unit {0}
Quiet hides (respond response buffer) = Unit {0}
Quiet hides end = Unit {0}
Quiet hides (read_variable n id) = area n ≡ permanently → hides id ≡ false

module _ (hides : List ℕ → Bool) (shown-none : hides [] ≡ false) (m : List Record) where
  steps_ok : (n k : ℕ) (c : Card) → Safe hides m c → Runs hides m (steps n k (see hides c)) (steps n k c)
  unfolding steps
  steps_ok zero k c h = record { sees = refl; safe = h }
  steps_ok (suc n) k c h =
      let o = stepped_ok hides shown-none m c h in
      rw o.sees
      (two_cond (Runs hides m) (goes_on (stepped c).outcome) (steps_ok n (k + 1) (stepped c).card o.safe) (record { sees = refl; safe = o.safe }))

  module _ (c : Card) (safe : Safe hides m c) where
    stays : (a : Answer) → Calls hides m (did a (see hides c)) (did a c)
    stays a = record { sees = refl; safe = safe }

    admitted_ok : (lent fitting : Bool) (refuse refuse' : Refusal → Did) {go go' : Did} → ((r : Refusal) → Calls hides m (refuse r) (refuse' r)) → Calls hides m go go' →
        Calls hides m (admitted lent (see hides c) fitting refuse go) (admitted lent c fitting refuse' go')
    unfolding admitted
    admitted_ok lent fitting refuse refuse' h k =
        rw (is_card_see hides c)
        (two_cond (Calls hides m) lent (two_cond (Calls hides m) (is_card c) (two_cond (Calls hides m) fitting k (h Call)) (h State)) (h Buffer))

    load_by_ok : (s : List ℕ) → hides (service s) ≡ false → (j : Result (Unit {0}) Rejection) → Calls hides m (load_by s (see hides c) j) (load_by s c j)
    unfolding load_by started with_run with_wanted with_guard with_temporary
    load_by_ok s h (Ok u) = record { sees = refl; safe = record { clean = h; kept = safe.kept } }
    load_by_ok s h (Err e) = stays _

    step_done_ok : (buffer : List ℕ) {x y : Effect} → Effects hides m x y → Calls hides m (step_done buffer (see hides c) x) (step_done buffer c y)
    unfolding step_done here
    step_done_ok buffer {x} {y} o =
        rw (o.sees, buffer_after_see hides y.card buffer y.outcome, reference_after_see hides y.card y.outcome)
        (record { sees = refl; safe = o.safe })

    run_done_ok : (buffer : List ℕ) {x y : Counted} → Runs hides m x y → Calls hides m (run_done buffer x) (run_done buffer y)
    unfolding run_done
    run_done_ok buffer {x} {y} o =
        rw (o.sees, buffer_after_see hides y.last.card buffer y.last.outcome, reference_after_see hides y.last.card y.last.outcome)
        (record { sees = refl; safe = o.safe })

    respond_done_ok : (buffer : List ℕ) {x y : Effect} → Effects hides m x y → Calls hides m (respond_done buffer x) (respond_done buffer y)
    unfolding respond_done
    respond_done_ok buffer {x} {y} o =
        rw (o.sees, buffer_after_see hides y.card buffer y.outcome, reference_after_see hides y.card y.outcome)
        (record { sees = refl; safe = o.safe })

    respond_by_ok : (response buffer : List ℕ) (r : Option Reply) → Calls hides m (respond_by response buffer (see hides c) r) (respond_by response buffer c r)
    unfolding respond_by respond_refused
    respond_by_ok response buffer (Some a) = respond_done_ok buffer (answered_ok hides shown-none m c safe a.general response a.after)
    respond_by_ok response buffer None = stays _

    environment_done_ok : (n : ℕ) (value : List ℕ) → Calls hides m (environment_done n value (see hides c)) (environment_done n value c)
    unfolding environment_done told_refused with_environment
    environment_done_ok n value =
        two_cond (Calls hides m) (ltb 0x3F n) (stays _)
        (two_cond (Calls hides m) (eqb n 5) (stays _)
        (two_cond (Calls hides m) (ltb longest (length value)) (stays _)
        (record { sees = refl; safe = record { clean = safe.clean; kept = safe.kept } })))

    pub act_ok : (k : Asked) → Quiet hides k → Calls hides m (act k (see hides c)) (act k c)
    unfolding act told_refused load_refused step_refused run_refused respond_refused runs ready waiting rested with_run with_guard with_temporary
    act_ok create q = absurd q
    act_ok (set_environment n value) q = admitted_ok _ _ _ _ (λ r. stays _) (environment_done_ok n value)
    act_ok (load s) q = admitted_ok _ _ _ _ (λ r. stays _) (load_by_ok s q (judge s))
    act_ok (step buffer) q = admitted_ok _ _ _ _ (λ r. stays _) (step_done_ok buffer (stepped_ok hides shown-none m c safe))
    act_ok (run_up_to n buffer) q = admitted_ok _ _ _ _ (λ r. stays _) (run_done_ok buffer (steps_ok n 0 c safe))
    act_ok (respond response buffer) q = admitted_ok _ _ _ _ (λ r. stays _) (respond_by_ok response buffer (reply response))
    act_ok end q = admitted_ok _ _ _ _ (λ r. stays _) (record { sees = refl; safe = rested_safe hides shown-none m c safe })
    act_ok (read_variable n id) q = rw (read_done_see hides c n id q) (stays _)
