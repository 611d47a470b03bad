-- 32: a state buffer of another length, and a buffer under 255 bytes for a command or a value.
-- Assumes nothing.
use Prim.Native.Nat.{ℕ, ◌%◌, ◌<◌}
use mathlib.Core.List.{List}
use mathlib.Core.Path.{◌≡◌, refl, ap, ◌∙◌}
use lib.ListN.{length}
use lib.Dec.{eqb}
use borrow.Author.Tests.{lt-leb}
use Rattle.rules.specs.Numbers.{outcome_number, number}
use Rattle.rules.specs.Calls.{Asked, step, run_up_to, respond, read_variable, answer_number, Did, admitted, lends, step_refused, run_refused, respond_refused, act, act_in}
use Rattle.rules.proofs.Choices.{both}
use Rattle.state.specs.State.{card_of}
use Rattle.buffer.specs.Buffer.{size, decoded}
use Rattle.cabi.specs.Serves.{has_room, served, Serves}
use Rattle.cabi.proofs.ServeLaws.{refused, barred}
use Rattle.cabi.proofs.Unique.{refused_number, low_byte}

-- A state buffer of another length gets 32 in every call, and stays byte for byte.
pub misfit_32 : (k : Asked) (s lent : List ℕ) (r : ℕ) (t u : List ℕ) → Serves k s lent r t u → (length s ≡ size → ⊥) → (r % 256 ≡ 32) × (t ≡ s)
misfit_32 k s lent r t u x n = (
  low_byte k s lent r t u x ∙ ap (λ (d : Did). answer_number d.answer) (refused s n k lent) ∙ refused_number k (card_of (decoded s)),
  x.stays (barred s n k),
)

module _ (s : List ℕ) where
  served_short : (k : Asked) (lent : List ℕ) → answer_number (act k (card_of (decoded s))).answer ≡ 32 → answer_number (served k s lent).answer ≡ 32
  unfolding served act_in
  served_short k lent e =
      let f = refused_number k (card_of (decoded s)) in
      both (has_room k lent) (λ a. both (eqb (length s) size) (λ b. simp (a, b) e) (λ b. simp (a, b) f)) (λ a. simp a f)

  module _ (lent : List ℕ) (short : length lent < 255) (r : ℕ) (t u : List ℕ) where
    -- So does a command buffer under 255 bytes; `kept_bytes` says what it leaves.
    pub step_32 : Serves (step lent) s lent r t u → r % 256 ≡ 32
    unfolding act admitted lends step_refused answer_number outcome_number number
    step_32 x = low_byte (step lent) s lent r t u x ∙ served_short (step lent) lent (rw (lt-leb _ _ short) refl)

    pub run_32 : (n : ℕ) → Serves (run_up_to n lent) s lent r t u → r % 256 ≡ 32
    unfolding act admitted lends run_refused answer_number outcome_number number
    run_32 n x = low_byte (run_up_to n lent) s lent r t u x ∙ served_short (run_up_to n lent) lent (rw (lt-leb _ _ short) refl)

    pub respond_32 : (w : List ℕ) → Serves (respond w lent) s lent r t u → r % 256 ≡ 32
    unfolding act admitted lends respond_refused answer_number outcome_number number
    respond_32 w x = low_byte (respond w lent) s lent r t u x ∙ served_short (respond w lent) lent (rw (lt-leb _ _ short) refl)

    -- And a value buffer.
    pub read_32 : (n : ℕ) (id : List ℕ) → Serves (read_variable n id) s lent r t u → r % 256 ≡ 32
    unfolding served has_room lends
    read_32 n id x =
        let k = read_variable n id in
        low_byte k s lent r t u x ∙ rw (lt-leb _ _ short) (refused_number k (card_of (decoded s)))
