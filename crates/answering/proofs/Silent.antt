-- A byte code that sends no command leaves the lent buffer as it was.
-- Assumes nothing.
use Prim.Native.Nat.{ℕ}
use mathlib.Core.List.{List}
use mathlib.Core.Path.{◌≡◌, refl}
use lib.Dec.{eqb}
use Rattle.rules.specs.declared.Action.{Action}
use Rattle.rules.specs.declared.Action.TheVariants.{Pass, Next, Quit, Back, Retry, Go}
use Rattle.rules.specs.declared.Target.{Target}
use Rattle.rules.specs.declared.Target.TheVariants.{Unit as UnitAt, Lacking, Other}
use Rattle.rules.specs.Bytes.{part}
use Rattle.rules.specs.Card.{Card}
use Rattle.rules.specs.Reference.{target}
use Rattle.rules.specs.Step.{Effect, Move, onwards, jump, away, back, send, finish, Plan, refuses, does, runs_out, branch_by, branch, perform, wanting, back_to, go_back, moved, applied}
use Rattle.rules.specs.Calls.{buffer_after}
use Rattle.leaf.proofs.Cases.{both}

abbrev pub Quiet : Effect → Type 0
Quiet e = (b : List ℕ) → b ≡ buffer_after b e.card e.outcome

abbrev Silent : Move → Type 0
Silent (onwards p) = Unit {0}
Silent (jump k) = Unit {0}
Silent (away r) = Unit {0}
Silent back = Unit {0}
Silent (send b) = ⊥
Silent finish = Unit {0}

abbrev SilentPlan : Plan → Type 0
SilentPlan (refuses r) = Unit {0}
SilentPlan (does c m) = Silent m
SilentPlan runs_out = Unit {0}

back_to_quiet : (c : Card) (r : List ℕ) (t : Target) → Quiet (back_to c r t)
unfolding back_to wanting buffer_after
back_to_quiet c r (UnitAt k) b = refl
back_to_quiet c r Lacking b = refl
back_to_quiet c r Other b = refl

go_back_quiet : (c : Card) → Quiet (go_back c)
unfolding go_back buffer_after
go_back_quiet c b = both (eqb c.history.pointer 0) (λ t. rw t refl) (λ t. rw t (back_to_quiet _ _ (target c.run.page _) b))

moved_quiet : (c : Card) (m : Move) → Silent m → Quiet (moved c m)
unfolding moved wanting buffer_after
moved_quiet c (onwards p) s b = refl
moved_quiet c (jump k) s b = refl
moved_quiet c (away r) s b = refl
moved_quiet c back s b = go_back_quiet _ b
moved_quiet c (send w) s b = absurd s
moved_quiet c finish s b = refl

pub silent_quiet : (c : Card) (p : Plan) → SilentPlan p → Quiet (applied c p)
unfolding applied buffer_after
silent_quiet c (refuses r) s b = refl
silent_quiet c (does d m) s b = moved_quiet d m s b
silent_quiet c runs_out s b = refl

branch_by_silent : (c : Card) (r : List ℕ) (t : Target) → SilentPlan (branch_by c r t)
unfolding branch_by
branch_by_silent c r (UnitAt k) = tt
branch_by_silent c r Lacking = tt
branch_by_silent c r Other = tt

branch_silent : (c : Card) (r : List ℕ) → SilentPlan (branch c r)
unfolding branch
branch_silent c r = branch_by_silent c r (target c.run.page r)

pub perform_silent : (c : Card) (next : ℕ) (a : Action) → SilentPlan (perform c next finish a)
unfolding perform
perform_silent c next Pass = tt
perform_silent c next Next = tt
perform_silent c next Quit = tt
perform_silent c next Back = tt
perform_silent c next Retry = tt
perform_silent c next (Go start stop) = branch_silent c (part c.run.page start stop)
