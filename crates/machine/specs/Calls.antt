-- A list of host calls on a machine, by what each contract promises.
use Rattle.std.specs.Prelude.{◌≡◌, List, [], ◌∷◌, ℕ}
use Rattle.rules.specs.Calls.{Asked, Answer, answers}
use Rattle.rules.specs.Hidden.{records_of}
use Rattle.state.specs.State.{card_of}
use Rattle.machine.specs.declared.Machine.{Machine}
use Rattle.machine.specs.Meets.{Meets}

-- the calls on a machine gave these answers, and left that machine
pub data Through : List Asked → Machine → List Answer → Machine → Type 0 where
  done : (m : Machine) → Through [] m [] m
  next : (k : Asked) (ks : List Asked) (m : Machine) (a : Answer) (after : Machine) (xs : List Answer) (last : Machine) → Meets k m a after → Through ks after xs last → Through (k ∷ ks) m (a ∷ xs) last

-- What demand 3 promises of two machines and the same calls: every answer is the same on both, and the one that the definitions give; the service's records end as they began.
pub record Apart (service : List ℕ) (ks : List Asked) (m n : Machine) (xs ys : List Answer) (p q : Machine) : Type 0 where
  pub same : xs ≡ ys
  pub given : xs ≡ answers ks (card_of m.state)
  pub kept_m : records_of service (card_of p.state) ≡ records_of service (card_of m.state)
  pub kept_n : records_of service (card_of q.state) ≡ records_of service (card_of n.state)
