-- The ways through the writes: where there is no memory, and what the arrays show after a write.
-- Assumes nothing.
use Prim.Native.Nat.{ℕ, ◌-◌, ◌≤◌, ◌<◌}
use mathlib.Core.Bool.{Bool, true, false, cond}
use mathlib.Core.List.{List}
use mathlib.Core.Path.{◌≡◌, refl, subst}
use native.Mathlib.Omega.{arith}
use lib.ListN.{length, set}
use borrow.Author.Tests.{lt-ltb, le-ltb}
use Rattle.rules.specs.Page.{service}
use Rattle.rules.specs.Card.{Slot, held, Record, stored, with_temporary, with_permanent}
use Rattle.rules.specs.Store.{area, place_for, value_of, value_bytes, room, record_room, wrote, no_room, write_temporary, write_permanent, write_in, write}
use Rattle.slots.specs.Slots.{slots}
use Rattle.records.specs.Records.{IsPlace, records}
use Rattle.std.specs.Prelude.{Option, Some, None}
use Rattle.records.proofs.RecordLaws.{sixty_four}
use Rattle.variable.specs.View.{seen, view}

-- who wrote did not find no memory
pub not_refused : {t u : List ℕ} → true ≡ false → u ≡ t
not_refused e = cc

module _ (page env t perm b : List ℕ) (k ty r : ℕ) (is : (x : Slot) → length (value_bytes x) ≡ length b → r ≡ room (set (slots t) k x)) where
  pub temporary_full : 2048 < r → write_temporary (view page env t perm) k (held ty b) ≡ no_room
  unfolding write_temporary view seen value_bytes
  temporary_full h = simp (lt-ltb _ _ (rw (is (held ty b) refl) at h))

  pub temporary_wrote : r ≤ 2048 → (u : List ℕ) → slots u ≡ set (slots t) k (held ty b) → write_temporary (view page env t perm) k (held ty b) ≡ wrote (view page env u perm)
  unfolding write_temporary view seen with_temporary value_bytes
  temporary_wrote h u e = simp (le-ltb _ _ (rw (is (held ty b) refl) at h), e)

pub ruleset temporary_laws = (temporary_full, temporary_wrote, not_refused)

module _ (page env temp p b id : List ℕ) (n ty : ℕ) (own : id ≡ service page) (o : Option ℕ) (found : IsPlace o (place_for id n (records p))) where
  module _ (x : o ≡ None) where
    nowhere : place_for id n (records p) ≡ 64
    nowhere = subst (λ q. IsPlace q (place_for id n (records p))) x found

    pub permanent_crowded : write_permanent (view page env temp p) (place_for (service page) n (records p)) (stored (service page) n ty b) ≡ no_room
    unfolding write_permanent view seen
    permanent_crowded = rw (← own, nowhere) (simp (le-ltb 64 (length (records p)) (omega (arith, sixty_four p))))

  module _ (k : ℕ) (x : o ≡ Some k) where
    place : (k ≡ place_for id n (records p)) × (k < 64)
    place = subst (λ q. IsPlace q (place_for id n (records p))) x found

    pub permanent_below : k < 64
    permanent_below = place.1

    module _ (r : ℕ) (sum : (x : Record) → length (value_bytes (value_of x)) ≡ length b → r ≡ record_room (set (records p) k x)) where
      pub permanent_full : 2048 < r → write_permanent (view page env temp p) (place_for (service page) n (records p)) (stored (service page) n ty b) ≡ no_room
      unfolding write_permanent view seen value_of value_bytes
      permanent_full l = let h = place.1 in rw (← own, ← place.0) (simp (lt-ltb k (length (records p)) (omega (arith, sixty_four p)), lt-ltb _ _ (rw (sum (stored id n ty b) refl) at l)))

      pub permanent_wrote : r ≤ 2048 → (q : List ℕ) → records q ≡ set (records p) k (stored id n ty b) → write_permanent (view page env temp p) (place_for (service page) n (records p)) (stored (service page) n ty b) ≡ wrote (view page env temp q)
      unfolding write_permanent view seen with_permanent value_of value_bytes
      permanent_wrote l q e = let h = place.1 in rw (← own, ← place.0) (simp (lt-ltb k (length (records p)) (omega (arith, sixty_four p)), le-ltb _ _ (rw (sum (stored id n ty b) refl) at l), e))

pub service_short : (page id : List ℕ) → id ≡ service page → length (service page) ≤ 16 → length id ≤ 16
service_short page id e h = rw e h

pub ruleset permanent_laws = (permanent_crowded, permanent_below, permanent_full, permanent_wrote, service_short, not_refused)

module _ (page env temp perm b : List ℕ) (n ty : ℕ) where
  pub write_long : 255 < length b → write (view page env temp perm) n ty b ≡ no_room
  unfolding write
  write_long h = simp (lt-ltb _ _ h)

  module _ (s : length b ≤ 255) where
    pub write_environment : n < 64 → write (view page env temp perm) n ty b ≡ wrote (view page env temp perm)
    unfolding write write_in area
    write_environment h = simp (le-ltb _ _ s, lt-ltb _ _ h)

    module _ (h : 64 ≤ n) where
      pub write_permanent_lem : n < 128 → (r : Bool) (q : List ℕ) → ((e t : List ℕ) → write_permanent (view page e t perm) (place_for (service page) n (records perm)) (stored (service page) n ty b) ≡ cond r (wrote (view page e t q)) no_room) → write (view page env temp perm) n ty b ≡ cond r (wrote (view page env temp q)) no_room
      unfolding write write_in area view seen
      write_permanent_lem i r q f = simp (le-ltb _ _ s, le-ltb _ _ h, lt-ltb _ _ i) (f env temp)

      module _ (i : 128 ≤ n) where
        pub write_temporary_lem : n < 192 → (k : ℕ) → k ≡ n → (r : Bool) (u : List ℕ) → ((g e p : List ℕ) → write_temporary (view g e temp p) (k - 128) (held ty b) ≡ cond r (wrote (view g e u p)) no_room) → write (view page env temp perm) n ty b ≡ cond r (wrote (view page env u perm)) no_room
        unfolding write write_in area
        write_temporary_lem j k f r u e = simp (le-ltb _ _ s, le-ltb _ _ h, le-ltb _ _ i, lt-ltb _ _ j) (rw f at (e page env perm))

        pub write_string : 192 ≤ n → write (view page env temp perm) n ty b ≡ wrote (view page env temp perm)
        unfolding write write_in area
        write_string j = simp (le-ltb _ _ s, le-ltb _ _ h, le-ltb _ _ i, le-ltb _ _ j)

pub ruleset write_laws = (write_long, write_environment, write_permanent_lem, write_temporary_lem, write_string)
