-- What every call of a machine promises.
use Rattle.std.specs.Prelude.{true, false, ◌≡◌}
use Rattle.rules.specs.IsCard.{is_card}
use Rattle.rules.specs.Calls.{Asked, Answer, act}
use Rattle.state.specs.State.{Is, card_of}
use Rattle.machine.specs.declared.Machine.{Machine}

-- The answer is that of the definitions, for every machine; a card goes on as the definitions say, in canonical form; what is no card stays as it is, byte for byte.
pub record Meets (k : Asked) (m : Machine) (a : Answer) (after : Machine) : Type 0 where
  pub answered : a ≡ (act k (card_of m.state)).answer
  pub goes : is_card (card_of m.state) ≡ true → Is after.state (act k (card_of m.state)).card
  pub stays : is_card (card_of m.state) ≡ false → after ≡ m
