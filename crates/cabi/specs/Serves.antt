-- What every call for C promises: the state lies in a lent buffer.
use Rattle.std.specs.Prelude.{ℕ, Bool, true, false, cond, List, ◌≡◌, length, eqb}
use Rattle.rules.specs.Card.{Card}
use Rattle.rules.specs.IsCard.{is_card}
use Rattle.rules.specs.Calls.{Asked, create, set_environment, load, step, run_up_to, respond, end, read_variable, Answer, told, loaded, taken, ran, responded, shown, Did, over, lends, refused_buffer, act_in}
use Rattle.state.specs.State.{Is, card_of}
use Rattle.buffer.specs.Buffer.{size, decoded}
use Rattle.packing.specs.Packed.{packed}

-- a read asks for room for the longest value (House); the room for a command is tested by the call itself
unfoldable pub has_room : Asked → List ℕ → Bool
has_room create lent = true
has_room (set_environment n value) lent = true
has_room (load page) lent = true
has_room (step buffer) lent = true
has_room (run_up_to n buffer) lent = true
has_room (respond response buffer) lent = true
has_room end lent = true
has_room (read_variable n id) lent = lends lent

-- a call on a state buffer, with the buffer that is lent for a command or a value
unfoldable pub served : Asked → (s lent : List ℕ) → Did
served k s lent =
    let c = card_of (decoded s) in
    cond (has_room k lent) (act_in size (length s) k c) (refused_buffer k c)

-- but for a creation a call needs a card
unfoldable pub finds : Asked → Card → Bool
finds create c = true
finds (set_environment n value) c = is_card c
finds (load page) c = is_card c
finds (step buffer) c = is_card c
finds (run_up_to n buffer) c = is_card c
finds (respond response buffer) c = is_card c
finds end c = is_card c
finds (read_variable n id) c = is_card c

unfoldable pub reaches : Asked → List ℕ → Bool
reaches k s = cond (eqb (length s) size) (finds k (card_of (decoded s))) false

-- the lent buffer after a call: a command in it, or a value and zeros behind it
unfoldable pub lent_after : Answer → List ℕ → List ℕ
lent_after (told t) lent = lent
lent_after (loaded l) lent = lent
lent_after (taken s buffer reference) lent = buffer
lent_after (ran r buffer reference) lent = buffer
lent_after (responded o buffer reference) lent = buffer
lent_after (shown s) lent = cond (eqb s.number 0) (over s.bytes lent) lent

-- What is returned and every byte of the lent buffer are those of the definitions. A state buffer of the named length that holds a card, or is to hold a new one,
-- comes to hold the card that the definitions give, in canonical form; any other stays as it is, byte for byte.
pub record Serves (k : Asked) (s lent : List ℕ) (returned : ℕ) (after lent_then : List ℕ) : Type 0 where
  pub answered : returned ≡ packed (served k s lent).answer
  pub laid : lent_then ≡ lent_after (served k s lent).answer lent
  pub long : length after ≡ length s
  pub goes : reaches k s ≡ true → Is (decoded after) (served k s lent).card
  pub stays : reaches k s ≡ false → after ≡ s
