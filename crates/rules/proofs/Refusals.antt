-- What a refusal leaves, for every call and every card. Assumes nothing.
use Prim.Native.Nat.{ℕ, zero, suc, ◌+◌}
use mathlib.Core.Path.{◌≡◌, refl, sym, ap, ◌∙◌}
use mathlib.Core.Bool.{Bool, true, false, cond}
use mathlib.Core.List.{List}
use native.Mathlib.Omega.{arith}
use borrow.Author.Tests.{ne_eqb}
use lib.Dec.{ltb, eqb}
use lib.ListN.{length}
use Rattle.rules.specs.Bytes.{among}
use Rattle.rules.specs.Numbers.{number, loaded_number, outcome_number, told_number, Leaves, renewed, kept, ended, leaves}
use Rattle.rules.specs.Loader.{judge}
use Rattle.rules.specs.Card.{Card, runs}
use Rattle.rules.specs.Store.{longest}
use Rattle.rules.specs.Command.{reply}
use Rattle.rules.specs.Step.{Move, onwards, jump, away, back, send, finish, Plan, refuses, does, runs_out, Effect, moved, wanting, back_to, go_back, failed, applied, decide, stepped, answer_for, answered, here}
use Rattle.rules.specs.Calls.{Asked, create, set_environment, load, step, run_up_to, respond, end, read_variable, Answer, told, loaded, taken, ran, responded, shown, answer_number, Did, admitted, lends, ready, waiting, load_by, load_refused, step_done, step_refused, Counted, goes_on, steps, run_done, run_refused, respond_done, respond_refused, respond_by, told_refused, environment_done, act, act_in, refused_buffer, hidden}
use Rattle.rules.specs.IsCard.{is_card}
use Rattle.rules.specs.declared.Target.{Target}
use Rattle.rules.specs.declared.Target.TheVariants.{Unit, Lacking, Other}
use Rattle.rules.specs.declared.Refusal.{Refusal}
use Rattle.rules.specs.declared.Refusal.TheVariants.{Buffer, Call, Response, State}
use Rattle.rules.specs.declared.Outcome.{Outcome}
use Rattle.rules.specs.declared.Outcome.TheVariants.{On, Command, Page, Ended, Refused}
use Rattle.rules.proofs.Choices.{either}
use Rattle.rules.proofs.Plans.{Ending, decide_ending, answer_ending}
use Rattle.std.specs.Prelude.{Option, Some, None, Result, Ok, Err}
use Rattle.rules.specs.declared.Tlv.{Tlv}
use Rattle.rules.specs.declared.Rejection.{Rejection}
use Rattle.rules.specs.declared.Reply.{Reply}

-- what a number leaves is told apart
is_kept : Leaves → ℕ
is_kept renewed = 0
is_kept kept = 1
is_kept ended = 2

pub not_renewed : renewed ≡ kept → ⊥
unfolding is_kept
not_renewed e = let z : ◌≡◌ {A = ℕ} 0 1 = ap is_kept e in omega arith

pub not_ended : ended ≡ kept → ⊥
unfolding is_kept
not_ended e = let z : ◌≡◌ {A = ℕ} 2 1 = ap is_kept e in omega arith

-- A refused effect on a card has a number that ends the page, and leaves the card but for '05', the keep rule and the page's end.
abbrev pub Fails : Card → Effect → Type 0
Fails c e = (r : Refusal) → e.outcome ≡ Refused r → (leaves (number r) ≡ ended) × (e.card ≡ failed r c)

on_done : (r : Refusal) → On ≡ Refused r → ⊥
on_done r e = let z : ◌≡◌ {A = ℕ} 0 1 = cc in omega arith

command_done : (n : ℕ) (r : Refusal) → Command n ≡ Refused r → ⊥
command_done n r e = let z : ◌≡◌ {A = ℕ} 0 1 = cc in omega arith

page_done : (r : Refusal) → Page ≡ Refused r → ⊥
page_done r e = let z : ◌≡◌ {A = ℕ} 0 1 = cc in omega arith

ended_done : (r : Refusal) → Ended ≡ Refused r → ⊥
ended_done r e = let z : ◌≡◌ {A = ℕ} 0 1 = cc in omega arith

module _ (b : Card) where
  back_fails : (c : Card) (r : List ℕ) (t : Target) → Fails b (back_to c r t)
  unfolding back_to wanting
  back_fails c r (Unit k) q e = absurd (on_done q e)
  back_fails c r Lacking q e = absurd (page_done q e)
  back_fails c r Other q e = absurd (page_done q e)

  go_back_fails : (c : Card) → Fails b (go_back c)
  unfolding go_back
  go_back_fails c = either (Fails b) (eqb c.history.pointer 0) (λ _ q e. absurd (ended_done q e)) (λ _. back_fails _ _ _)

  moved_fails : (c : Card) (m : Move) → Fails b (moved c m)
  unfolding moved wanting
  moved_fails c (onwards p) = λ q e. absurd (on_done q e)
  moved_fails c (jump k) = λ q e. absurd (on_done q e)
  moved_fails c (away r) = λ q e. absurd (page_done q e)
  moved_fails c back = go_back_fails _
  moved_fails c (send x) = λ q e. absurd (command_done (length x) q e)
  moved_fails c finish = λ q e. absurd (ended_done q e)

applied_fails : (c : Card) (p : Plan) → Ending p → Fails c (applied c p)
unfolding applied
applied_fails c (refuses r) e = λ q h. let f : r ≡ q = cc in (rw f at e, rw f refl)
applied_fails c (does w m) e = moved_fails c w m
applied_fails c runs_out e = λ q h. absurd (ended_done q h)

pub stepped_fails : (c : Card) → Fails c (stepped c)
unfolding stepped
stepped_fails c = applied_fails c (decide c) (decide_ending c)

pub answered_fails : (c : Card) (g : ℕ) (r : List ℕ) (after : Option Tlv) → Fails c (answered c g r after)
unfolding answered
answered_fails c g r after = applied_fails c (answer_for c g r after (here c)) (answer_ending c g r after (here c))

-- so an effect never has a number that leaves all as it was
moving : (c : Card) (e : Effect) → Fails c e → leaves (outcome_number e.outcome) ≡ kept → ⊥
unfolding outcome_number leaves among
moving c e f = by e.outcome refl
  where
    by : (o : Outcome) → e.outcome ≡ o → leaves (outcome_number o) ≡ kept → ⊥
    by On q h = not_renewed h
    by (Command n) q h = not_renewed h
    by Page q h = not_renewed h
    by Ended q h = not_renewed h
    by (Refused r) q h = not_ended (sym (f r q).0 ∙ h)

-- a call that leaves all as it was, by its number
abbrev Keeps : Card → Did → Type 0
Keeps c d = leaves (answer_number d.answer) ≡ kept → d.card ≡ c

admitted_keeps : (lent : Bool) (c : Card) (fitting : Bool) (refuse : Refusal → Did) (go : Did) → ((r : Refusal) → (refuse r).card ≡ c) → Keeps c go → Keeps c (admitted lent c fitting refuse go)
unfolding admitted
admitted_keeps lent c fitting refuse go f g =
    either (Keeps c) lent
    (λ _. either (Keeps c) (is_card c) (λ _. either (Keeps c) fitting (λ _. g) (λ _ h. f _)) (λ _ h. f _))
    (λ _ h. f _)

load_keeps : (s : List ℕ) (c : Card) (j : Result (Prim.Unit {0}) Rejection) → Keeps c (load_by s c j)
unfolding load_by answer_number loaded_number leaves among
load_keeps s c (Ok u) h = absurd (not_renewed h)
load_keeps s c (Err e) h = refl

-- the last step of a run is one of a card
pub steps_fails : (n k : ℕ) (c : Card) → (b : Card) × Fails b (steps n k c).last
unfolding steps
steps_fails zero k c = (c, λ q e. absurd (on_done q e))
steps_fails (suc n) k c =
    either (λ (r : Counted). (b : Card) × Fails b r.last) (goes_on (stepped c).outcome)
    (λ _. steps_fails n (k + 1) (stepped c).card) (λ _. (c, stepped_fails c))

respond_keeps : (response buffer : List ℕ) (c : Card) (r : Option Reply) → Keeps c (respond_by response buffer c r)
unfolding respond_by respond_done respond_refused answer_number
respond_keeps response buffer c (Some a) h = absurd (moving c _ (answered_fails c a.general response a.after) h)
respond_keeps response buffer c None h = refl

environment_keeps : (n : ℕ) (value : List ℕ) (c : Card) → Keeps c (environment_done n value c)
unfolding environment_done told_refused answer_number told_number leaves among
environment_keeps n value c =
    either (Keeps c) (ltb 0x3F n) (λ _ h. refl)
    (λ _. either (Keeps c) (eqb n 5) (λ _ h. refl)
    (λ _. either (Keeps c) (ltb longest (length value)) (λ _ h. refl) (λ _ h. absurd (not_renewed h))))

-- 1 to 7 and 32 to 35 leave the card as it was.
pub kept_as_it_was : (k : Asked) (c : Card) → leaves (answer_number (act k c).answer) ≡ kept → (act k c).card ≡ c
unfolding act answer_number told_number leaves among told_refused load_refused step_refused step_done run_refused run_done respond_refused
kept_as_it_was create c h = absurd (not_renewed h)
kept_as_it_was (set_environment n value) c h = admitted_keeps true c _ (told_refused c) _ (λ r. refl) (environment_keeps n value c) h
kept_as_it_was (load s) c h = admitted_keeps true c _ (load_refused c) _ (λ r. refl) (load_keeps s c (judge s)) h
kept_as_it_was (step buffer) c h = admitted_keeps (lends buffer) c (ready c) (step_refused buffer c) _ (λ r. refl) (λ g. absurd (moving c _ (stepped_fails c) g)) h
kept_as_it_was (run_up_to n buffer) c h = admitted_keeps (lends buffer) c (ready c) (run_refused buffer c) _ (λ r. refl) (λ g. absurd (moving _ _ (steps_fails n 0 c).1 g)) h
kept_as_it_was (respond response buffer) c h = admitted_keeps (lends buffer) c (waiting c) (respond_refused buffer c) _ (λ r. refl) (respond_keeps response buffer c (reply response)) h
kept_as_it_was end c h = admitted_keeps true c (runs c) (told_refused c) _ (λ r. refl) (λ g. absurd (not_renewed g)) h
kept_as_it_was (read_variable n id) c h = refl

-- a refused environment write leaves the card as it was, and a read always does
pub environment_as_it_was : (n : ℕ) (value : List ℕ) (c : Card) → (answer_number (act (set_environment n value) c).answer ≡ 0 → ⊥) → (act (set_environment n value) c).card ≡ c
unfolding act admitted environment_done told_refused answer_number told_number
environment_as_it_was n value c =
    either Still (is_card c)
    (λ _. either Still (cond (runs c) false true)
    (λ _. either Still (ltb 0x3F n) (λ _ h. refl)
    (λ _. either Still (eqb n 5) (λ _ h. refl)
    (λ _. either Still (ltb longest (length value)) (λ _ h. refl) (λ _ h. absurd (h refl)))))
    (λ _ h. refl))
    (λ _ h. refl)
  where
    Still : Did → Type 0
    Still d = (answer_number d.answer ≡ 0 → ⊥) → d.card ≡ c

pub read_as_it_was : (n : ℕ) (id : List ℕ) (c : Card) → (act (read_variable n id) c).card ≡ c
unfolding act
read_as_it_was n id c = refl

-- the outcome of a step or a response
unfoldable pub outcome_of : Answer → Outcome
outcome_of (told t) = Ended
outcome_of (loaded l) = Ended
outcome_of (taken s buffer reference) = s.outcome
outcome_of (ran r buffer reference) = r.outcome
outcome_of (responded o buffer reference) = o
outcome_of (shown s) = Ended

module _ (c : Card) where
  Fell : Did → Type 0
  Fell d = (r : Refusal) → outcome_of d.answer ≡ Refused r → leaves (number r) ≡ ended → d.card ≡ failed r c

  -- a refusal of the call has no number that ends the page
  kept_fell : (q : Refusal) → leaves (number q) ≡ kept → (d : Did) → outcome_of d.answer ≡ Refused q → Fell d
  unfolding Fell
  kept_fell q k d h r e l = let f : q ≡ r = cc in absurd (not_ended (sym (rw (← f) at l) ∙ k))

  admitted_fell : (lent fitting : Bool) (refuse : Refusal → Did) (go : Did) → ((q : Refusal) → outcome_of (refuse q).answer ≡ Refused q) → Fell go → Fell (admitted lent c fitting refuse go)
  unfolding admitted number leaves among
  admitted_fell lent fitting refuse go f g =
      either Fell lent
      (λ _. either Fell (is_card c) (λ _. either Fell fitting (λ _. g) (λ _. kept_fell Call refl _ (f Call))) (λ _. kept_fell State refl _ (f State)))
      (λ _. kept_fell Buffer refl _ (f Buffer))

  -- A refused step leaves the card as it was but for '05', and then the keep rule and the page's end.
  pub refused_step : (buffer : List ℕ) (r : Refusal) → outcome_of (act (step buffer) c).answer ≡ Refused r → leaves (number r) ≡ ended → (act (step buffer) c).card ≡ failed r c
  unfolding act Fell outcome_of step_done step_refused
  refused_step buffer = admitted_fell (lends buffer) (ready c) (step_refused buffer c) (step_done buffer c (stepped c)) (λ q. refl) (λ r e l. (stepped_fails c r e).1)

  reply_fell : (response buffer : List ℕ) (a : Option Reply) → Fell (respond_by response buffer c a)
  unfolding Fell outcome_of respond_by respond_done respond_refused number leaves among
  reply_fell response buffer (Some a) = λ r e l. (answered_fails c a.general response a.after r e).1
  reply_fell response buffer None = kept_fell Response refl (respond_refused buffer c Response) refl

  -- and so does a refused response
  pub refused_response : (response buffer : List ℕ) (r : Refusal) → outcome_of (act (respond response buffer) c).answer ≡ Refused r → leaves (number r) ≡ ended → (act (respond response buffer) c).card ≡ failed r c
  unfolding act Fell outcome_of respond_refused
  refused_response response buffer = admitted_fell (lends buffer) (waiting c) (respond_refused buffer c) (respond_by response buffer c (reply response)) (λ q. refl) (reply_fell response buffer (reply response))

buffer_refused : (k : Asked) (c : Card) → (answer_number (refused_buffer k c).answer ≡ 32) × ((refused_buffer k c).card ≡ c)
unfolding refused_buffer told_refused load_refused step_refused run_refused respond_refused hidden answer_number told_number loaded_number outcome_number number
buffer_refused create c = (refl, refl)
buffer_refused (set_environment n value) c = (refl, refl)
buffer_refused (load s) c = (refl, refl)
buffer_refused (step buffer) c = (refl, refl)
buffer_refused (run_up_to n buffer) c = (refl, refl)
buffer_refused (respond response buffer) c = (refl, refl)
buffer_refused end c = (refl, refl)
buffer_refused (read_variable n id) c = (refl, refl)

-- A state buffer of another length than is named gets 32, and leaves the card as it was.
pub misfit_as_it_was : (named lent : ℕ) → (lent ≡ named → ⊥) → (k : Asked) (c : Card) → (answer_number (act_in named lent k c).answer ≡ 32) × ((act_in named lent k c).card ≡ c)
unfolding act_in
misfit_as_it_was named lent apart k c = simp (ne_eqb lent named apart) (buffer_refused k c)
