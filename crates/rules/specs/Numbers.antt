-- The numbers of document 01's table: which answer has which, what each leaves, and the code of clause 12.3 for variable '05'.
use Rattle.std.specs.Prelude.{ℕ, cond, List, [], ◌∷◌, eqb, Result, Ok, Err}
use Rattle.rules.specs.Bytes.{among, hex}
use Rattle.rules.specs.declared.Refusal.{Refusal}
use Rattle.rules.specs.declared.Refusal.TheVariants.{Syntax, Variable, Anchor, Memory, Security, Disallowed, Buffer, Call, Response, State}
use Rattle.rules.specs.declared.Outcome.{Outcome}
use Rattle.rules.specs.declared.Outcome.TheVariants.{On, Command, Page, Ended, Refused}
use Rattle.rules.specs.declared.Rejection.{Rejection}
use Rattle.rules.specs.declared.LoadError.{LoadError}
use Rattle.rules.specs.declared.LoadError.TheVariants.{Faulty, Unloaded}

-- the number of each refusal; 'reference to undefined' is one number for a variable and for an anchor
unfoldable pub number : Refusal → ℕ
number Syntax = 16
number Variable = 17
number Anchor = 17
number Memory = 18
number Security = 19
number Disallowed = 22
number Buffer = 32
number Call = 33
number Response = 34
number State = 35

-- the number that each answer has
unfoldable pub judged_number : Result (Unit {0}) Rejection → ℕ
judged_number (Ok u) = 0
judged_number (Err e) = e.class

unfoldable pub loaded_number : Result (Unit {0}) LoadError → ℕ
loaded_number (Ok u) = 0
loaded_number (Err (Faulty e)) = e.class
loaded_number (Err (Unloaded r)) = number r

unfoldable pub outcome_number : Outcome → ℕ
outcome_number On = 0
outcome_number (Command n) = 0
outcome_number Page = 0
outcome_number Ended = 0
outcome_number (Refused r) = number r

unfoldable pub told_number : Result (Unit {0}) Refusal → ℕ
told_number (Ok u) = 0
told_number (Err r) = number r

-- the offset that a load's answer carries
unfoldable pub offset : Result (Unit {0}) LoadError → ℕ
offset (Ok u) = 0
offset (Err (Faulty e)) = e.place
offset (Err (Unloaded r)) = 0

-- what a number leaves: the new state, all as it was (K), or the page ended (E)
pub data Leaves : Type 0 where
  renewed : Leaves
  kept : Leaves
  ended : Leaves

unfoldable pub leaves : ℕ → Leaves
leaves n = cond (eqb n 0) renewed (cond (among (16 ∷ 17 ∷ 18 ∷ 19 ∷ 22 ∷ []) n) ended kept)

-- Clause 12.3: the code that the last byte code leaves in variable '05'. A K answer leaves none.
unfoldable pub code : Refusal → List ℕ
code Syntax = hex 2 0x6F01
code Variable = hex 2 0x6F05
code Anchor = hex 2 0x6F02
code Memory = hex 2 0x6F03
code Security = hex 2 0x6F04
code Disallowed = hex 2 0x6F0A
code Buffer = []
code Call = []
code Response = []
code State = []

unfoldable pub no_error : List ℕ
no_error = hex 2 0x0000
