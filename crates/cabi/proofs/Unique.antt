-- A contract settles what is returned and every byte of the lent buffers; an answer that leaves all as it was leaves the state buffer byte for byte.
-- Assumes nothing.
use Prim.Native.Nat.{ℕ, ◌%◌, ◌<◌}
use mathlib.Core.Bool.{Bool, true, false, cond, true≢false, false≢true}
use mathlib.Core.List.{List, [], ◌∷◌}
use mathlib.Core.Path.{◌≡◌, refl, sym, ap, ◌∙◌}
use native.Mathlib.Omega.{arith}
use lib.ListN.{length, get_or}
use lib.Dec.{eqb, ltb}
use borrow.Author.Tests.{eqb-true, eq-eqb, ltb-true}
use Rattle.rules.specs.Bytes.{part, among}
use Rattle.rules.specs.Numbers.{told_number, kept, leaves}
use Rattle.rules.specs.Card.{Card}
use Rattle.rules.specs.IsCard.{is_card}
use Rattle.rules.specs.Calls.{Asked, create, set_environment, load, step, run_up_to, respond, end, read_variable, answer_number, numbers_of, Did, act, refused_buffer, act_in}
use Rattle.rules.proofs.Choices.{both}
use Rattle.rules.proofs.BlankTests.{first, second}
use Rattle.rules.proofs.Answers.{numbers_of_the_table}
use Rattle.rules.proofs.Refusals.{not_renewed, kept_as_it_was, environment_as_it_was, read_as_it_was, misfit_as_it_was}
use Rattle.word.specs.Word.{word_in}
use Rattle.state.specs.State.{Is, card_of}
use Rattle.state.proofs.Canonical.{is_tidy, is_card_lem, canonical_same}
use Rattle.buffer.specs.Buffer.{size, decoded, encoded}
use Rattle.buffer.proofs.Codec.{encode_decode}
use Rattle.machine.proofs.Parts.{sound_is}
use Rattle.packing.specs.Packed.{packed}
use Rattle.cabi.specs.Serves.{has_room, served, finds, reaches, Serves}

-- the contents of a buffer are bytes
abbrev pub Bytes : List ℕ → Type 0
Bytes s = (i : ℕ) → get_or s i 0 < 256

reaches_length : (k : Asked) (s : List ℕ) → reaches k s ≡ true → length s ≡ size
unfolding reaches
reaches_length k s e = eqb-true (length s) size (first (eqb (length s) size) _ e)

-- two buffers of the named length that hold the same card, in canonical form, are the same bytes
same_bytes : (s t : List ℕ) (c : Card) → length s ≡ size → length t ≡ size → Bytes s → Bytes t → Is (decoded s) c → Is (decoded t) c → s ≡ t
same_bytes s t c l m a b p q =
    let e : decoded s ≡ decoded t = canonical_same (decoded s) (decoded t) (is_tidy (decoded s) c p) (is_tidy (decoded t) c q) (is_card_lem (decoded s) c p ∙ sym (is_card_lem (decoded t) c q)) in
    sym (encode_decode s l a) ∙ ap encoded e ∙ encode_decode t m b

-- Two returns and two contents of the buffers that meet a call's contract are the same.
pub serves_same : (k : Asked) (s lent : List ℕ) (q r : ℕ) (t u v w : List ℕ) → Bytes t → Bytes u → Serves k s lent q t v → Serves k s lent r u w → (q ≡ r) × (t ≡ u) × (v ≡ w)
serves_same k s lent q r t u v w a b x y = (
  x.answered ∙ sym y.answered,
  both (reaches k s)
      (λ e. let l = reaches_length k s e in same_bytes t u (served k s lent).card (x.long ∙ l) (y.long ∙ l) a b (x.goes e) (y.goes e))
      (λ e. x.stays e ∙ sym (y.stays e)),
  x.laid ∙ sym y.laid,
)

-- a call that leaves its card as it was
module _ (k : Asked) (s lent : List ℕ) (r : ℕ) (t u : List ℕ) (x : Serves k s lent r t u) (a : Bytes s) (b : Bytes t) where
  untouched : (reaches k s ≡ true → (is_card (card_of (decoded s)) ≡ true) × ((served k s lent).card ≡ card_of (decoded s))) → t ≡ s
  untouched f =
      both (reaches k s)
      (λ e.
      let l = reaches_length k s e in
      let (i, j) = f e in
      same_bytes t s (served k s lent).card (x.long ∙ l) l b a (x.goes e) (rw j (sound_is (decoded s) i)))
      (λ e. x.stays e)

refused_card : (k : Asked) (c : Card) → (refused_buffer k c).card ≡ c
unfolding act_in
refused_card k c = (misfit_as_it_was 0 1 (λ e. omega arith) k c).1

-- where the buffer has its length, the call is `act` unless a read finds no room
served_card : (P : Asked → Card → Did → Type 0) (k : Asked) (s lent : List ℕ) → length s ≡ size → P k (card_of (decoded s)) (act k (card_of (decoded s))) → (has_room k lent ≡ false → P k (card_of (decoded s)) (refused_buffer k (card_of (decoded s)))) → P k (card_of (decoded s)) (served k s lent)
unfolding served act_in
served_card P k s lent l f g = both (has_room k lent) (λ t. simp (t, eq-eqb (length s) size l) f) (λ t. simp t (g t))

found : (k : Asked) (s : List ℕ) → reaches k s ≡ true → finds k (card_of (decoded s)) ≡ true
unfolding reaches
found k s e = second (eqb (length s) size) _ e

abbrev Kept : Asked → Card → Did → Type 0
Kept k c d = leaves (answer_number d.answer) ≡ kept → finds k c ≡ true → (is_card c ≡ true) × (d.card ≡ c)

act_kept : (k : Asked) (c : Card) → Kept k c (act k c)
unfolding finds act answer_number told_number leaves
act_kept create c h e = absurd (not_renewed h)
act_kept (set_environment n value) c h e = (e, kept_as_it_was (set_environment n value) c h)
act_kept (load page) c h e = (e, kept_as_it_was (load page) c h)
act_kept (step buffer) c h e = (e, kept_as_it_was (step buffer) c h)
act_kept (run_up_to n buffer) c h e = (e, kept_as_it_was (run_up_to n buffer) c h)
act_kept (respond response buffer) c h e = (e, kept_as_it_was (respond response buffer) c h)
act_kept end c h e = (e, kept_as_it_was end c h)
act_kept (read_variable n id) c h e = (e, read_as_it_was n id c)

short_kept : (k : Asked) (lent : List ℕ) → has_room k lent ≡ false → (c : Card) → finds k c ≡ is_card c
unfolding has_room finds
short_kept create lent e c = absurd (true≢false e)
short_kept (set_environment n value) lent e c = refl
short_kept (load page) lent e c = refl
short_kept (step buffer) lent e c = refl
short_kept (run_up_to n buffer) lent e c = refl
short_kept (respond response buffer) lent e c = refl
short_kept end lent e c = refl
short_kept (read_variable n id) lent e c = refl

-- the answer stands in the low byte of what is returned
all_bytes : List ℕ → Bool
all_bytes [] = true
all_bytes (x ∷ xs) = cond (ltb x 256) (all_bytes xs) false

among_byte : (xs : List ℕ) (n : ℕ) → all_bytes xs ≡ true → among xs n ≡ true → n < 256
unfolding all_bytes among
among_byte [] n a e = absurd (false≢true e)
among_byte (x ∷ xs) n a e =
    both (eqb n x)
    (λ t. let z = eqb-true n x t in let l = ltb-true x 256 (first (ltb x 256) _ a) in omega arith)
    (λ t. among_byte xs n (second (ltb x 256) _ a) (rw t at e))

all_bytes_lem : (k : Asked) → all_bytes (numbers_of k) ≡ true
unfolding all_bytes numbers_of
all_bytes_lem create = refl
all_bytes_lem (set_environment n value) = refl
all_bytes_lem (load page) = refl
all_bytes_lem (step buffer) = refl
all_bytes_lem (run_up_to n buffer) = refl
all_bytes_lem (respond response buffer) = refl
all_bytes_lem end = refl
all_bytes_lem (read_variable n id) = refl

pub refused_number : (k : Asked) (c : Card) → answer_number (refused_buffer k c).answer ≡ 32
unfolding act_in
refused_number k c = (misfit_as_it_was 0 1 (λ e. omega arith) k c).0

served_number : (k : Asked) (s lent : List ℕ) → answer_number (served k s lent).answer < 256
unfolding served act_in
served_number k s lent =
    let c = card_of (decoded s) in
    let b : answer_number (refused_buffer k c).answer < 256 = (let z = refused_number k c in omega arith) in
    both (has_room k lent)
    (λ t. both (eqb (length s) size)
    (λ e. simp (t, e) (among_byte (numbers_of k) (answer_number (act k c).answer) (all_bytes_lem k) (numbers_of_the_table c k)))
    (λ e. simp (t, e) b))
    (λ t. simp t b)

pub low_byte : (k : Asked) (s lent : List ℕ) (r : ℕ) (t u : List ℕ) → Serves k s lent r t u → r % 256 ≡ answer_number (served k s lent).answer
unfolding packed
low_byte k s lent r t u x = let e = x.answered in let l = served_number k s lent in omega arith

module _ (s lent : List ℕ) (r : ℕ) (t u : List ℕ) (a : Bytes s) (b : Bytes t) where
  -- Every answer that the table marks K leaves the state buffer byte for byte.
  pub kept_bytes : (k : Asked) → Serves k s lent r t u → leaves (r % 256) ≡ kept → t ≡ s
  kept_bytes k x h =
      untouched k s lent r t u x a b (λ e.
      served_card Kept k s lent (reaches_length k s e) (act_kept k (card_of (decoded s)))
      (λ f i j. (sym (short_kept k lent f (card_of (decoded s))) ∙ j, refused_card k (card_of (decoded s))))
      (rw (low_byte k s lent r t u x) at h) (found k s e))

  -- So do a refused environment write and every read.
  pub environment_bytes : (n : ℕ) (value : List ℕ) → Serves (set_environment n value) s lent r t u → (r % 256 ≡ 0 → ⊥) → t ≡ s
  unfolding finds
  environment_bytes n value x h =
      let k = set_environment n value in
      untouched k s lent r t u x a b (λ e. (
        found k s e,
        served_card (λ q c d. (answer_number d.answer ≡ 0 → ⊥) → d.card ≡ c) k s lent (reaches_length k s e)
            (environment_as_it_was n value (card_of (decoded s))) (λ f i. refused_card k (card_of (decoded s)))
            (λ z. h (low_byte k s lent r t u x ∙ z)),
      ))

  pub read_bytes : (n : ℕ) (id : List ℕ) → Serves (read_variable n id) s lent r t u → t ≡ s
  unfolding finds
  read_bytes n id x =
      let k = read_variable n id in
      untouched k s lent r t u x a b (λ e. (
        found k s e,
        served_card (λ q c d. d.card ≡ c) k s lent (reaches_length k s e) (read_as_it_was n id (card_of (decoded s))) (λ f. refused_card k (card_of (decoded s))),
      ))

-- The reference of a page wanted stands in the state buffer: its length at 56,631, and its bytes behind it.
pub wanted_there : (k : Asked) (s lent : List ℕ) (r : ℕ) (t u : List ℕ) → Serves k s lent r t u → reaches k s ≡ true → word_in (part t 56631 56697) ≡ (served k s lent).card.wanted
unfolding decoded
wanted_there k s lent r t u x e = (x.goes e).wanted
