-- What an answer carries fits its bits: the length of a command, the unit of a step, the offset of a load.
-- Assumes nothing.
use Prim.Native.Nat.{ℕ, zero, suc, ◌+◌, ◌≤◌, ◌<◌}
use mathlib.Core.Bool.{Bool, true, cond}
use mathlib.Core.List.{List}
use mathlib.Core.Path.{◌≡◌}
use native.Mathlib.Omega.{arith}
use lib.ListN.{length}
use lib.Dec.{eqb}
use Rattle.rules.specs.Numbers.{offset}
use Rattle.rules.specs.Loader.{judge}
use Rattle.rules.specs.Card.{Card, with_run, in_hand, runs}
use Rattle.rules.specs.Command.{reply}
use Rattle.rules.specs.Step.{Move, onwards, jump, away, back, send, finish, Plan, refuses, does, runs_out, Effect, sending, wanting, back_to, go_back, moved, applied, decide, stepped, here, answer_for, answered}
use Rattle.rules.specs.IsCard.{is_card}
use Rattle.rules.specs.Calls.{load, step, run_up_to, respond, Answer, told, loaded, taken, ran, responded, shown, Did, Counted, steps, goes_on, admitted, lends, ready, waiting, load_by, load_refused, step_done, step_refused, run_done, run_refused, respond_done, respond_refused, respond_by, act}
use Rattle.rules.specs.declared.Target.{Target}
use Rattle.rules.specs.declared.Target.TheVariants.{Unit as Own, Lacking, Other}
use Rattle.rules.specs.declared.Refusal.{Refusal}
use Rattle.rules.specs.declared.Refusal.TheVariants.{Buffer, Call, State as NoCard}
use Rattle.rules.proofs.Choices.{either}
use Rattle.rules.proofs.Runs.{run_is_its_steps}
use Rattle.rules.proofs.StaysCard.{stays_card}
use Rattle.packing.specs.Packed.{command_length}
use Rattle.cabi.proofs.PackLaws.{Low, judge_low}
use Rattle.cabi.proofs.Small.{card_small}
use Rattle.std.specs.Prelude.{Option, Some, None, Result, Ok, Err}
use Rattle.rules.specs.declared.Tlv.{Tlv}
use Rattle.rules.specs.declared.Rejection.{Rejection}
use Rattle.rules.specs.declared.Reply.{Reply}

-- a command that goes out is in hand
abbrev Held : Effect → Type 0
Held e = command_length e.outcome ≤ length (in_hand e.card.run.hand)

back_held : (c : Card) (r : List ℕ) (t : Target) → Held (back_to c r t)
unfolding back_to wanting command_length
back_held c r (Own k) = omega arith
back_held c r Lacking = omega arith
back_held c r Other = omega arith

go_back_held : (c : Card) → Held (go_back c)
unfolding go_back command_length
go_back_held c = either Held (eqb c.history.pointer 0) (λ _. omega arith) (λ _. back_held _ _ _)

moved_held : (c : Card) (m : Move) → Held (moved c m)
unfolding moved wanting sending with_run in_hand command_length
moved_held c (onwards p) = omega arith
moved_held c (jump k) = omega arith
moved_held c (away r) = omega arith
moved_held c back = go_back_held _
moved_held c (send b) = omega arith
moved_held c finish = omega arith

applied_held : (c : Card) (p : Plan) → Held (applied c p)
unfolding applied command_length
applied_held c (refuses r) = omega arith
applied_held c (does w m) = moved_held w m
applied_held c runs_out = omega arith

stepped_held : (c : Card) → Held (stepped c)
unfolding stepped
stepped_held c = applied_held c (decide c)

answered_held : (c : Card) (g : ℕ) (r : List ℕ) (after : Option Tlv) → Held (answered c g r after)
unfolding answered
answered_held c g r after = applied_held c (answer_for c g r after (here c))

steps_held : (n k : ℕ) (c : Card) → Held (steps n k c).last
unfolding steps command_length
steps_held zero k c = omega arith
steps_held (suc n) k c =
    either (λ (r : Counted). Held r.last) (goes_on (stepped c).outcome) (λ _. steps_held n (k + 1) (stepped c).card) (λ _. stepped_held c)

-- what is packed of an answer
abbrev pub Fits : Answer → Type 0
Fits (told t) = Prim.Unit {0}
Fits (loaded l) = offset l < 65536
Fits (taken s buffer reference) = (command_length s.outcome < 65536) × (s.unit < 65536)
Fits (ran r buffer reference) = command_length r.outcome < 65536
Fits (responded o buffer reference) = command_length o < 65536
Fits (shown s) = Prim.Unit {0}

held_fits : (e : Effect) → Held e → is_card e.card ≡ true → command_length e.outcome < 65536
held_fits e h k = let b = (card_small e.card k).hand in omega arith

module _ (c : Card) where
  -- of a card that stays one
  abbrev Fine : Did → Type 0
  Fine d = (is_card c ≡ true → is_card d.card ≡ true) → Fits d.answer

  admitted_fine : (lent fitting : Bool) (refuse : Refusal → Did) (go : Did) → ((r : Refusal) → Fine (refuse r)) → (is_card c ≡ true → Fine go) → Fine (admitted lent c fitting refuse go)
  unfolding admitted
  admitted_fine lent fitting refuse go f g =
      either Fine lent (λ _. either Fine (is_card c) (λ t. either Fine fitting (λ _. g t) (λ _. f Call)) (λ _. f NoCard)) (λ _. f Buffer)

  load_fine : (s : List ℕ) (j : Result (Unit {0}) Rejection) → Low j → Fine (load_by s c j)
  unfolding load_by offset
  load_fine s (Ok u) h k = omega arith
  load_fine s (Err e) h k = omega arith

  respond_fine : (response buffer : List ℕ) (r : Option Reply) → is_card c ≡ true → Fine (respond_by response buffer c r)
  unfolding respond_by respond_done respond_refused command_length
  respond_fine response buffer (Some a) t k = held_fits (answered c a.general response a.after) (answered_held c a.general response a.after) (k t)
  respond_fine response buffer None t k = omega arith

  pub load_fits : (s : List ℕ) → Fits (act (load s) c).answer
  unfolding act load_refused offset
  load_fits s = admitted_fine true (cond (runs c) _ _) (load_refused c) (load_by s c (judge s)) (λ r k. omega arith) (λ t. load_fine s (judge s) (judge_low s)) (λ e. stays_card c e (load s))

  pub step_fits : (buffer : List ℕ) → Fits (act (step buffer) c).answer
  unfolding act step_refused step_done command_length
  step_fits buffer =
      admitted_fine (lends buffer) (ready c) (step_refused buffer c) (step_done buffer c (stepped c)) (λ r k. (omega arith, omega arith))
      (λ t k. (held_fits (stepped c) (stepped_held c) (k t), (card_small c t).unit)) (λ e. stays_card c e (step buffer))

  pub run_fits : (n : ℕ) (buffer : List ℕ) → Fits (act (run_up_to n buffer) c).answer
  unfolding act run_refused run_done command_length
  run_fits n buffer =
      admitted_fine (lends buffer) (ready c) (run_refused buffer c) (run_done buffer (steps n 0 c)) (λ r k. omega arith)
      (λ t k. held_fits (steps n 0 c).last (steps_held n 0 c) (k t)) (λ e. stays_card c e (run_up_to n buffer))

  pub respond_fits : (response buffer : List ℕ) → Fits (act (respond response buffer) c).answer
  unfolding act respond_refused command_length
  respond_fits response buffer =
      admitted_fine (lends buffer) (waiting c) (respond_refused buffer c) (respond_by response buffer c (reply response)) (λ r k. omega arith)
      (λ t. respond_fine response buffer (reply response) t) (λ e. stays_card c e (respond response buffer))

-- the steps that a run counts
abbrev pub CountedTo : ℕ → Answer → Type 0
CountedTo n (told t) = Prim.Unit {0}
CountedTo n (loaded l) = Prim.Unit {0}
CountedTo n (taken s buffer reference) = Prim.Unit {0}
CountedTo n (ran r buffer reference) = r.count ≤ n
CountedTo n (responded o buffer reference) = Prim.Unit {0}
CountedTo n (shown s) = Prim.Unit {0}

pub run_counts : (n : ℕ) (buffer : List ℕ) (c : Card) → CountedTo n (act (run_up_to n buffer) c).answer
unfolding act admitted run_refused run_done
run_counts n buffer c =
    either Within (lends buffer)
    (λ _. either Within (is_card c) (λ _. either Within (ready c) (λ _. (run_is_its_steps n c).at_most) (λ _. omega arith)) (λ _. omega arith))
    (λ _. omega arith)
  where
    Within : Did → Type 0
    Within d = CountedTo n d.answer
