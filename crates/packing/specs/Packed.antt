-- An answer in one number: one layout for all calls.
use Rattle.std.specs.Prelude.{ℕ, ◌+◌, ◌*◌}
use Rattle.rules.specs.Numbers.{offset, outcome_number}
use Rattle.rules.specs.Calls.{Answer, told, loaded, taken, ran, responded, shown, answer_number}
use Rattle.rules.specs.declared.Outcome.{Outcome}
use Rattle.rules.specs.declared.Outcome.TheVariants.{On, Command, Page, Ended, Refused}

-- the answer in bits 0 to 7, a kind in 8 to 15, a size in 16 to 31, and what is left above
abbrev pub laid : (number kind size high : ℕ) → ℕ
laid number kind size high = number + 256 * kind + 65536 * size + 4294967296 * high

unfoldable pub outcome_kind : Outcome → ℕ
outcome_kind On = 0
outcome_kind (Command n) = 1
outcome_kind Page = 2
outcome_kind Ended = 3
outcome_kind (Refused r) = 4

unfoldable pub command_length : Outcome → ℕ
command_length On = 0
command_length (Command n) = n
command_length Page = 0
command_length Ended = 0
command_length (Refused r) = 0

-- the outcome of a step, a run or a response; the type of a value read
unfoldable pub kind_of : Answer → ℕ
kind_of (told t) = 0
kind_of (loaded l) = 0
kind_of (taken s buffer reference) = outcome_kind s.outcome
kind_of (ran r buffer reference) = outcome_kind r.outcome
kind_of (responded o buffer reference) = outcome_kind o
kind_of (shown s) = s.valuetype

-- the offset of a refused load; the command's length; the length of a value read
unfoldable pub size_of : Answer → ℕ
size_of (told t) = 0
size_of (loaded l) = offset l
size_of (taken s buffer reference) = command_length s.outcome
size_of (ran r buffer reference) = command_length r.outcome
size_of (responded o buffer reference) = command_length o
size_of (shown s) = s.length

-- a step's unit, and its tag eight bits above; a run's count
unfoldable pub high_of : Answer → ℕ
high_of (told t) = 0
high_of (loaded l) = 0
high_of (taken s buffer reference) = s.unit + 256 * s.tag
high_of (ran r buffer reference) = r.count
high_of (responded o buffer reference) = 0
high_of (shown s) = 0

unfoldable pub packed : Answer → ℕ
packed a = laid (answer_number a) (kind_of a) (size_of a) (high_of a)

unfoldable pub packed_outcome : Outcome → ℕ → ℕ
packed_outcome o high = laid (outcome_number o) (outcome_kind o) (command_length o) high
