-- A run is its steps: the count, the outcome and the card of taking one step after another until n, or until an outcome other than gone on. Assumes nothing.
use Prim.Native.Nat.{ℕ, zero, suc, ◌+◌, ◌≤◌, ◌<◌}
use mathlib.Core.Path.{◌≡◌, refl, sym, ap, ◌∙◌}
use mathlib.Core.Bool.{true, false≢true}
use native.Mathlib.Omega.{arith}
use Rattle.rules.specs.Card.{Card}
use Rattle.rules.specs.Step.{Effect, effect, stepped}
use Rattle.rules.specs.Calls.{Counted, goes_on, steps}
use Rattle.rules.specs.declared.Outcome.{Outcome}
use Rattle.rules.specs.declared.Outcome.TheVariants.{On, Command, Page, Ended, Refused}
use Rattle.rules.proofs.Choices.{either}

-- the card after so many steps
unfoldable pub card_after : ℕ → Card → Card
card_after zero c = c
card_after (suc n) c = card_after n (stepped c).card

-- what so many steps came to: nothing yet, or the last of them
unfoldable pub effect_of : ℕ → Card → Effect
effect_of zero c = effect On c
effect_of (suc n) c = stepped (card_after n c)

-- Up to n steps from a card, of which m were taken.
pub record Steps (n m : ℕ) (c : Card) (e : Effect) : Type 0 where
  pub at_most : m ≤ n
  pub last : e ≡ effect_of m c
  pub before : (i : ℕ) → i + 1 < m → goes_on (stepped (card_after i c)).outcome ≡ true
  pub all : goes_on e.outcome ≡ true → m ≡ n

on_alone : (o : Outcome) → goes_on o ≡ true → o ≡ On
unfolding goes_on
on_alone On h = refl
on_alone (Command n) h = absurd (false≢true h)
on_alone Page h = absurd (false≢true h)
on_alone Ended h = absurd (false≢true h)
on_alone (Refused r) h = absurd (false≢true h)

module _ (c : Card) (t : goes_on (stepped c).outcome ≡ true) where
  effect_more : (m : ℕ) → effect_of m (stepped c).card ≡ effect_of (suc m) c
  unfolding effect_of card_after
  effect_more zero = ap (λ (o : Outcome). effect o (stepped c).card) (sym (on_alone (stepped c).outcome t))
  effect_more (suc m) = refl

  before_more : (m : ℕ) → ((i : ℕ) → i + 1 < m → goes_on (stepped (card_after i (stepped c).card)).outcome ≡ true) → (i : ℕ) → i + 1 < suc m → goes_on (stepped (card_after i c)).outcome ≡ true
  unfolding card_after
  before_more m f zero h = t
  before_more m f (suc i) h = f i (omega arith)

  one_more_lem : (n m : ℕ) (e : Effect) → Steps n m (stepped c).card e → Steps (suc n) (suc m) c e
  one_more_lem n m e h =
      record {
        at_most = let b = h.at_most in omega arith;
        last = h.last ∙ effect_more m;
        before = before_more m h.before;
        all = λ g. ap suc (h.all g);
      }

-- the run counts the steps that it takes
abbrev Counts : ℕ → ℕ → Card → Counted → Type 0
Counts n k c r = (m : ℕ) × (r.count ≡ k + m) × Steps n m c r.last

counts_more : (n k : ℕ) (c : Card) (r : Counted) → goes_on (stepped c).outcome ≡ true → Counts n (k + 1) (stepped c).card r → Counts (suc n) k c r
counts_more n k c r t (m, e, h) = (suc m, omega arith, one_more_lem c t n m r.last h)

steps_of : (n k : ℕ) (c : Card) → Counts n k c (steps n k c)
unfolding steps effect_of card_after
steps_of zero k c = (0, omega arith, record { at_most = omega arith; last = refl; before = λ i h. absurd (omega arith); all = λ h. refl })
steps_of (suc n) k c =
    either (Counts (suc n) k c) (goes_on (stepped c).outcome)
    (λ t. counts_more n k c (steps n (k + 1) (stepped c).card) t (steps_of n (k + 1) (stepped c).card))
    (λ t. (1, refl, record { at_most = omega arith; last = refl; before = λ i h. absurd (omega arith); all = λ h. absurd (false≢true (sym t ∙ h)) }))

-- The run's count is the number of steps taken, and its outcome and card are theirs.
pub run_is_its_steps : (n : ℕ) (c : Card) → Steps n (steps n 0 c).count c (steps n 0 c).last
run_is_its_steps n c = let (m, e, h) = steps_of n 0 c in let f : m ≡ (steps n 0 c).count = omega arith in rw f at h
