-- Which answers change the state: 0, and the numbers that end a page in a step, a run or a response. Where there is no card, none does.
-- Assumes nothing.
use Prim.Native.Nat.{ℕ, ◌≤◌}
use mathlib.Core.Bool.{Bool, true, false, cond, true≢false}
use mathlib.Core.List.{List}
use mathlib.Core.Path.{◌≡◌, refl}
use native.Mathlib.Omega.{arith}
use lib.ListN.{length}
use lib.Dec.{ltb, eqb}
use borrow.Author.Tests.{ltb-false, ne_eqb}
use Rattle.rules.specs.Bytes.{among}
use Rattle.rules.specs.Numbers.{number, told_number, loaded_number, outcome_number, offset, kept, leaves}
use Rattle.rules.specs.Loader.{judge}
use Rattle.rules.specs.Store.{longest}
use Rattle.rules.specs.Card.{Card, runs}
use Rattle.rules.specs.IsCard.{is_card}
use Rattle.rules.specs.Calls.{Asked, create, set_environment, load, step, run_up_to, respond, end, read_variable, Answer, answer_number, Did, admitted, lends, ready, waiting, load_by, load_refused, step_refused, run_refused, respond_refused, told_refused, environment_done, hidden, read_done, act}
use Rattle.rules.specs.declared.Refusal.{Refusal}
use Rattle.rules.specs.declared.Refusal.TheVariants.{Buffer, State as NoCard}
use Rattle.rules.proofs.Choices.{either}
use Rattle.rules.proofs.Refusals.{kept_as_it_was}
use Rattle.packing.specs.Packed.{kind_of, size_of, high_of, packed}
use Rattle.cabi.specs.Serves.{finds}
use Rattle.std.specs.Prelude.{Result, Ok, Err}
use Rattle.rules.specs.declared.Rejection.{Rejection}

kept_number : (n : ℕ) → 32 ≤ n → leaves n ≡ kept
unfolding leaves among
kept_number n h =
    simp (ne_eqb n 0 (λ e. omega arith), ne_eqb n 16 (λ e. omega arith), ne_eqb n 17 (λ e. omega arith), ne_eqb n 18 (λ e. omega arith), ne_eqb n 19 (λ e. omega arith), ne_eqb n 22 (λ e. omega arith)) refl

-- a number from 32 on leaves the card as it was
pub low_keeps : (k : Asked) (c : Card) (a : Answer) → a ≡ (act k c).answer → ltb (answer_number a) 32 ≡ false → (act k c).card ≡ c
low_keeps k c a e h = kept_as_it_was k c (kept_number (answer_number (act k c).answer) (ltb-false _ 32 (rw e at h)))

module _ (c : Card) where
  -- a write, an end or a load changes the state where it is answered 0
  abbrev Keeps : Did → Type 0
  Keeps d = (packed d.answer ≡ 0 → ⊥) → d.card ≡ c

  admitted_keeps : (lent fitting : Bool) (refuse : Refusal → Did) (go : Did) → ((r : Refusal) → (refuse r).card ≡ c) → Keeps go → Keeps (admitted lent c fitting refuse go)
  unfolding admitted
  admitted_keeps lent fitting refuse go f g =
      either Keeps lent (λ _. either Keeps (is_card c) (λ _. either Keeps fitting (λ _. g) (λ _ h. f _)) (λ _ h. f _)) (λ _ h. f _)

  pub end_keeps : (packed (act end c).answer ≡ 0 → ⊥) → (act end c).card ≡ c
  unfolding act told_refused packed answer_number told_number kind_of size_of high_of
  end_keeps = admitted_keeps true (runs c) (told_refused c) _ (λ r. refl) (λ h. absurd (h refl))

  pub set_keeps : (n : ℕ) (value : List ℕ) → (packed (act (set_environment n value) c).answer ≡ 0 → ⊥) → (act (set_environment n value) c).card ≡ c
  unfolding act told_refused environment_done packed answer_number told_number kind_of size_of high_of
  set_keeps n value =
      admitted_keeps true (cond (runs c) false true) (told_refused c) (environment_done n value c) (λ r. refl)
      (either Keeps (ltb 0x3F n) (λ _ h. refl)
      (λ _. either Keeps (eqb n 5) (λ _ h. refl)
      (λ _. either Keeps (ltb longest (length value)) (λ _ h. refl) (λ _ h. absurd (h refl)))))

  judged_keeps : (s : List ℕ) (j : Result (Unit {0}) Rejection) → Keeps (load_by s c j)
  unfolding load_by packed answer_number loaded_number offset kind_of size_of high_of
  judged_keeps s (Ok u) h = absurd (h refl)
  judged_keeps s (Err e) h = refl

  pub load_keeps : (s : List ℕ) → (packed (act (load s) c).answer ≡ 0 → ⊥) → (act (load s) c).card ≡ c
  unfolding act load_refused
  load_keeps s = admitted_keeps true (cond (runs c) false true) (load_refused c) (load_by s c (judge s)) (λ r. refl) (judged_keeps s (judge s))

  -- without a card a call is refused by 32 or 35
  module _ (f : is_card c ≡ false) where
    High : Did → Type 0
    High d = ltb (answer_number d.answer) 32 ≡ false

    admitted_high : (lent fitting : Bool) (refuse : Refusal → Did) (go : Did) → High (refuse NoCard) → High (refuse Buffer) → High (admitted lent c fitting refuse go)
    unfolding admitted
    admitted_high lent fitting refuse go a b = either High lent (λ _. rw f a) (λ _. b)

    pub none_high : (k : Asked) → finds k c ≡ false → ltb (answer_number (act k c).answer) 32 ≡ false
    unfolding High act finds told_refused load_refused step_refused run_refused respond_refused read_done hidden answer_number told_number loaded_number outcome_number number
    none_high create e = absurd (true≢false e)
    none_high (set_environment n value) e = admitted_high true _ (told_refused c) _ refl refl
    none_high (load s) e = admitted_high true _ (load_refused c) _ refl refl
    none_high (step buffer) e = admitted_high (lends buffer) (ready c) (step_refused buffer c) _ refl refl
    none_high (run_up_to n buffer) e = admitted_high (lends buffer) (ready c) (run_refused buffer c) _ refl refl
    none_high (respond response buffer) e = admitted_high (lends buffer) (waiting c) (respond_refused buffer c) _ refl refl
    none_high end e = admitted_high true (runs c) (told_refused c) _ refl refl
    none_high (read_variable n id) e = rw f refl
