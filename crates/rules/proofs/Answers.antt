-- Each call answers only numbers that document 01's table gives it, and an offset is at most the page's length. Assumes nothing.
use Prim.Native.Nat.{ℕ, ◌≤◌}
use mathlib.Core.Path.{◌≡◌, refl, sym}
use mathlib.Core.Bool.{Bool, true, false, cond, false≢true}
use mathlib.Core.List.{List, [], ◌∷◌, ◌++◌}
use native.Mathlib.Omega.{arith}
use lib.Dec.{ltb, eqb}
use lib.ListN.{length}
use Rattle.rules.specs.Bytes.{among}
use Rattle.rules.specs.Numbers.{number, loaded_number, outcome_number, told_number, offset, ended, leaves}
use Rattle.rules.specs.Loader.{judge}
use Rattle.rules.specs.Card.{Card, Slot, free, held, runs}
use Rattle.rules.specs.Store.{longest, area}
use Rattle.rules.specs.Command.{reply}
use Rattle.rules.specs.Step.{Effect}
use Rattle.rules.specs.Calls.{Asked, create, set_environment, load, step, run_up_to, respond, end, read_variable, Answer, told, loaded, taken, ran, responded, shown, answer_number, numbers_of, Did, admitted, lends, ready, waiting, load_by, load_refused, step_done, step_refused, run_done, run_refused, respond_done, respond_refused, respond_by, told_refused, environment_done, hidden, display, seen, read_done, act}
use Rattle.rules.specs.IsCard.{is_card}
use Rattle.rules.specs.declared.Refusal.{Refusal}
use Rattle.rules.specs.declared.Refusal.TheVariants.{Syntax, Variable, Anchor, Memory, Security, Disallowed, Buffer, Call, Response, State}
use Rattle.rules.specs.declared.Shown.{Shown}
use Rattle.rules.specs.declared.Outcome.{Outcome}
use Rattle.rules.specs.declared.Outcome.TheVariants.{On, Command, Page, Ended, Refused}
use Rattle.rules.proofs.Choices.{both, either}
use Rattle.rules.proofs.Refusals.{Fails, not_ended, stepped_fails, answered_fails, steps_fails}
use Rattle.rules.proofs.Offsets.{JudgedIn, judge_in}
use Rattle.std.specs.Prelude.{Option, Some, None, Result, Ok, Err}
use Rattle.rules.specs.declared.Rejection.{Rejection}
use Rattle.rules.specs.declared.Reply.{Reply}

-- the answer has one of some numbers
abbrev Answers : List ℕ → Did → Type 0
Answers ns d = among ns (answer_number d.answer) ≡ true

admitted_answers : (ns : List ℕ) (lent : Bool) (c : Card) (fitting : Bool) (refuse : Refusal → Did) (go : Did) → (lent ≡ true → Answers ns go) → (lent ≡ false → Answers ns (refuse Buffer)) → Answers ns (refuse Call) → Answers ns (refuse State) → Answers ns (admitted lent c fitting refuse go)
unfolding admitted
admitted_answers ns lent c fitting refuse go g b k s =
    either (Answers ns) lent (λ t. either (Answers ns) (is_card c) (λ _. either (Answers ns) fitting (λ _. g t) (λ _. k)) (λ _. s)) b

among_more : (y n : ℕ) (xs ys : List ℕ) → among xs n ≡ true → among (y ∷ xs ++ ys) n ≡ true
unfolding among
among_more y n xs ys h = either (λ (b : Bool). b ≡ true) (eqb n y) (λ _. refl) (λ _. before xs h)
  where
    before : (zs : List ℕ) → among zs n ≡ true → among (zs ++ ys) n ≡ true
    before [] e = absurd (false≢true e)
    before (z ∷ zs) e = both (eqb n z) (λ t. simp t) (λ t. simp t (before zs (simp t at e)))

ending_among : (ns : List ℕ) → among ns 0 ≡ true → among ns 16 ≡ true → among ns 17 ≡ true → among ns 18 ≡ true → among ns 19 ≡ true → among ns 22 ≡ true → (c : Card) (e : Effect) → Fails c e → among ns (outcome_number e.outcome) ≡ true
unfolding outcome_number number leaves among
ending_among ns n0 n16 n17 n18 n19 n22 c e f = by e.outcome refl
  where
    of : (r : Refusal) → leaves (number r) ≡ ended → among ns (number r) ≡ true
    of Syntax h = n16
    of Variable h = n17
    of Anchor h = n17
    of Memory h = n18
    of Security h = n19
    of Disallowed h = n22
    of Buffer h = absurd (not_ended (sym h))
    of Call h = absurd (not_ended (sym h))
    of Response h = absurd (not_ended (sym h))
    of State h = absurd (not_ended (sym h))

    by : (o : Outcome) → e.outcome ≡ o → among ns (outcome_number o) ≡ true
    by On q = n0
    by (Command n) q = n0
    by Page q = n0
    by Ended q = n0
    by (Refused r) q = of r (f r q).0

-- the offset that an answer carries
unfoldable pub offset_of : Answer → ℕ
offset_of (told t) = 0
offset_of (loaded l) = offset l
offset_of (taken s buffer reference) = 0
offset_of (ran r buffer reference) = 0
offset_of (responded o buffer reference) = 0
offset_of (shown s) = 0

module _ (c : Card) where
  load_answers : (s : List ℕ) (j : Result (Unit {0}) Rejection) → JudgedIn (length s) j → Answers (numbers_of (load s)) (load_by s c j)
  unfolding load_by answer_number loaded_number numbers_of among
  load_answers s (Ok u) h = refl
  load_answers s (Err e) h = among_more 0 e.class (1 ∷ 2 ∷ 3 ∷ 4 ∷ 5 ∷ 6 ∷ 7 ∷ []) (33 ∷ 35 ∷ []) h.0

  respond_answers : (response buffer : List ℕ) (r : Option Reply) → Answers (numbers_of (respond response buffer)) (respond_by response buffer c r)
  unfolding respond_by respond_done respond_refused answer_number outcome_number number numbers_of among
  respond_answers response buffer (Some a) = ending_among (numbers_of (respond response buffer)) refl refl refl refl refl refl c _ (answered_fails c a.general response a.after)
  respond_answers response buffer None = refl

  environment_answers : (n : ℕ) (value : List ℕ) → Answers (numbers_of (set_environment n value)) (environment_done n value c)
  unfolding environment_done told_refused answer_number told_number number numbers_of among
  environment_answers n value =
      either (Answers (numbers_of (set_environment n value))) (ltb 0x3F n) (λ _. refl)
      (λ _. either (Answers (numbers_of (set_environment n value))) (eqb n 5) (λ _. refl)
      (λ _. either (Answers (numbers_of (set_environment n value))) (ltb longest (length value)) (λ _. refl) (λ _. refl)))

  display_answers : (n : ℕ) (id : List ℕ) (x : Slot) → among (numbers_of (read_variable n id)) (display x).number ≡ true
  unfolding display hidden number numbers_of among
  display_answers n id free = refl
  display_answers n id (held type bytes) = refl

  pub numbers_of_the_table : (k : Asked) → among (numbers_of k) (answer_number (act k c).answer) ≡ true
  unfolding act read_done hidden told_refused load_refused step_done step_refused run_done run_refused respond_refused answer_number told_number loaded_number outcome_number number numbers_of among
  numbers_of_the_table create = refl
  numbers_of_the_table (set_environment n value) = admitted_answers (numbers_of (set_environment n value)) true c _ (told_refused c) _ (λ _. environment_answers n value) (λ e. absurd (false≢true (sym e))) refl refl
  numbers_of_the_table (load s) = admitted_answers (numbers_of (load s)) true c _ (load_refused c) _ (λ _. load_answers s (judge s) (judge_in s)) (λ e. absurd (false≢true (sym e))) refl refl
  numbers_of_the_table (step buffer) = admitted_answers (numbers_of (step buffer)) (lends buffer) c (ready c) (step_refused buffer c) _ (λ _. ending_among (numbers_of (step buffer)) refl refl refl refl refl refl c _ (stepped_fails c)) (λ _. refl) refl refl
  numbers_of_the_table (run_up_to n buffer) = admitted_answers (numbers_of (run_up_to n buffer)) (lends buffer) c (ready c) (run_refused buffer c) _ (λ _. ending_among (numbers_of (run_up_to n buffer)) refl refl refl refl refl refl _ _ (steps_fails n 0 c).1) (λ _. refl) refl refl
  numbers_of_the_table (respond response buffer) = admitted_answers (numbers_of (respond response buffer)) (lends buffer) c (waiting c) (respond_refused buffer c) _ (λ _. respond_answers response buffer (reply response)) (λ _. refl) refl refl
  numbers_of_the_table end = admitted_answers (numbers_of end) true c (runs c) (told_refused c) _ (λ _. refl) (λ e. absurd (false≢true (sym e))) refl refl
  numbers_of_the_table (read_variable n id) =
      either (λ (s : Shown). among (numbers_of (read_variable n id)) s.number ≡ true) (is_card c) (λ _. display_answers n id (seen (area n) c n id)) (λ _. refl)

  loaded_offset : (s : List ℕ) (j : Result (Unit {0}) Rejection) → JudgedIn (length s) j → offset_of (load_by s c j).answer ≤ length s
  unfolding load_by offset_of offset
  loaded_offset s (Ok u) h = omega arith
  loaded_offset s (Err e) h = h.1

  -- An offset is at most the page's length.
  pub offset_in_page : (s : List ℕ) → offset_of (act (load s) c).answer ≤ length s
  unfolding act admitted load_refused offset_of offset
  offset_in_page s =
      either Low (is_card c) (λ _. either Low (cond (runs c) false true) (λ _. loaded_offset s (judge s) (judge_in s)) (λ _. omega arith)) (λ _. omega arith)
    where
      Low : Did → Type 0
      Low d = offset_of d.answer ≤ length s
