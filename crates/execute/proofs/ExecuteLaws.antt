-- The ways through the functions that read an Execute USAT Command.
-- Assumes nothing.
use Prim.Native.Nat.{ℕ, ◌+◌, ◌/◌, ◌%◌, ◌≤◌}
use mathlib.Core.Bool.{Bool, true, false}
use mathlib.Core.List.{List}
use mathlib.Core.Path.{◌≡◌, refl, sym, ◌∙◌}
use native.Mathlib.Omega.{arith}
use lib.ListN.{get_or}
use lib.Dec.{eqb}
use Rattle.rules.specs.Bytes.{among}
use Rattle.rules.specs.Shape.{attribute}
use Rattle.rules.specs.Page.{content_at}
use Rattle.rules.specs.Card.{Slot, free, held}
use Rattle.rules.specs.Store.{value_bytes}
use Rattle.rules.specs.Command.{Execute, execute_of, has_general, optimises, has_output, general_number, output_number, type_at, allowed_by}
use Rattle.slots.specs.Slots.{slots, is_held}
use Rattle.tlv.proofs.Bounds.{content_in}

module _ (s : List ℕ) (tag start stop : ℕ) where
  pub content_within : start ≤ stop → (p : ℕ) → p ≡ content_at s tag start stop → p ≤ stop
  content_within h p e = let b = content_in s tag start stop h in omega arith

  module _ (a : ℕ) (e : a ≡ attribute s tag start stop) where
    pub general_present : eqb (a % 2) 1 ≡ has_general (execute_of s tag start stop)
    unfolding has_general execute_of
    general_present = rw e

    pub optimisation_required : eqb (a / 2 % 2) 1 ≡ optimises (execute_of s tag start stop)
    unfolding optimises execute_of
    optimisation_required = rw e

    pub output_present : eqb (a / 4 % 2) 1 ≡ has_output (execute_of s tag start stop)
    unfolding has_output execute_of
    output_present = rw e

  module _ (at : ℕ) (f : at ≡ content_at s tag start stop) where
    pub general_read : (b : ℕ) → b ≡ get_or s at 0 → b ≡ general_number s (execute_of s tag start stop)
    unfolding general_number execute_of
    general_read b g = rw f at g

    module _ (a : ℕ) (e : a ≡ attribute s tag start stop) (w : ℕ) (k : w ≡ a) where
      pub output_read : (b : ℕ) → b ≡ get_or s (at + w % 2) 0 → b ≡ output_number s (execute_of s tag start stop)
      unfolding output_number execute_of
      output_read b g = g ∙ rw (f, k, e)

      pub type_read : at + (w % 2 + w / 4 % 2) ≡ type_at (execute_of s tag start stop)
      unfolding type_at execute_of
      type_read = rw (f, k, e)

pub ruleset read_laws = (content_within, general_present, optimisation_required, output_present, general_read, output_read, type_read)

held_allows : (x : Slot) (type : ℕ) → is_held x ≡ true → among (value_bytes x) type ≡ allowed_by type x
unfolding is_held allowed_by value_bytes
held_allows free type e = let z : ◌≡◌ {A = Bool} false true = e in cc
held_allows (held t bytes) type e = refl

free_allows : (x : Slot) (type : ℕ) → is_held x ≡ false → true ≡ allowed_by type x
unfolding is_held allowed_by
free_allows free type e = refl
free_allows (held t bytes) type e = let z : ◌≡◌ {A = Bool} true false = e in cc

module _ (s env : List ℕ) (x : Execute) (at own : ℕ) (e : at ≡ type_at x) (f : own ≡ get_or s at 0) (h : Bool) (g : h ≡ is_held (get_or (slots env) 2 free)) where
  pub allowed_listed : h ≡ true → (v : List ℕ) → v ≡ value_bytes (get_or (slots env) 2 free) → (r : Bool) → r ≡ among v own → r ≡ allowed_by (get_or s (type_at x) 0) (get_or (slots env) 2 free)
  allowed_listed y v i r j = j ∙ rw (i, f, e) (held_allows (get_or (slots env) 2 free) _ (sym g ∙ y))

  pub allowed_all : h ≡ false → true ≡ allowed_by (get_or s (type_at x) 0) (get_or (slots env) 2 free)
  allowed_all y = free_allows (get_or (slots env) 2 free) _ (sym g ∙ y)

pub ruleset allowed_laws = (allowed_listed, allowed_all)
