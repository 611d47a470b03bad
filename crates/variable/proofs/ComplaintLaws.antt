-- Complaints in their order.
-- Assumes nothing.
use mathlib.Core.Bool.{true, false, cond}
use mathlib.Core.Path.{◌≡◌, refl}
use lib.Dec.{ltb}
use borrow.Author.Tests.{lt-ltb, le-ltb}
use Rattle.rules.specs.declared.Complaint.{Complaint}
use Rattle.rules.specs.declared.Complaint.TheVariants.{Nothing, Undefined, Secured, Misused}
use Rattle.std.specs.Ordering.{ord_max}
use Rattle.rules.specs.contracts.ComplaintOrd.TheImpl
use Rattle.rules.specs.Card.{Slot, free, held}
use Rattle.rules.specs.Store.{rank, worse, undefined_in}
use Rattle.slots.specs.Slots.{is_held}
use Rattle.leaf.proofs.Cases.{both, tests}

-- complaints are declared in their order
pub later : (a b : Complaint) → ord_max TheImpl.cmp-value.it a b ≡ worse a b
unfolding worse rank
later Nothing Nothing = refl
later Nothing Undefined = refl
later Nothing Secured = refl
later Nothing Misused = refl
later Undefined Nothing = refl
later Undefined Undefined = refl
later Undefined Secured = refl
later Undefined Misused = refl
later Secured Nothing = refl
later Secured Undefined = refl
later Secured Secured = refl
later Secured Misused = refl
later Misused Nothing = refl
later Misused Undefined = refl
later Misused Secured = refl
later Misused Misused = refl

-- nothing is no worse than anything, and who looks for the worst may do so in any grouping
pub worse_nothing : (a : Complaint) → worse Nothing a ≡ a
unfolding worse rank
worse_nothing Nothing = refl
worse_nothing Undefined = refl
worse_nothing Secured = refl
worse_nothing Misused = refl

pub nothing_worse : (a : Complaint) → worse a Nothing ≡ a
unfolding worse rank
nothing_worse Nothing = refl
nothing_worse Undefined = refl
nothing_worse Secured = refl
nothing_worse Misused = refl

pub worse_assoc : (a b c : Complaint) → worse (worse a b) c ≡ worse a (worse b c)
unfolding worse
worse_assoc a b c =
    both (ltb (rank a) (rank b))
    (λ t. both (ltb (rank b) (rank c)) (λ u. let v : ltb (rank a) (rank c) ≡ true = lt-ltb (rank a) (rank c) (omega tests) in simp (t, u, v)) (λ u. simp (t, u)))
    (λ t. both (ltb (rank b) (rank c)) (λ u. simp (t, u)) (λ u. let v : ltb (rank a) (rank c) ≡ false = le-ltb (rank a) (rank c) (omega tests) in simp (t, u, v)))

pub worse_secured : (x : Slot) → worse Secured (undefined_in x) ≡ Secured
unfolding worse rank undefined_in
worse_secured free = refl
worse_secured (held type bytes) = refl

pub undefined_held : (x : Slot) → undefined_in x ≡ cond (is_held x) Nothing Undefined
unfolding undefined_in is_held
undefined_held free = refl
undefined_held (held type bytes) = refl
