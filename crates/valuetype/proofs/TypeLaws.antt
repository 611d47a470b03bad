-- The ways through `shared_type`, `inline_type` and `type_for`.
-- Assumes nothing.
use Prim.Native.Nat.{ℕ, ◌+◌, ◌%◌, ◌≤◌, ◌<◌}
use mathlib.Core.List.{List}
use mathlib.Core.Path.{◌≡◌}
use lib.ListN.{length, get_or}
use borrow.Author.Tests.{eq-eqb, ne_eqb}
use Rattle.rules.specs.Bytes.{part}
use Rattle.rules.specs.Pieces.{named}
use Rattle.rules.specs.Shape.{attribute}
use Rattle.rules.specs.Page.{type_of, page_type}
use Rattle.rules.specs.Card.{Card}
use Rattle.rules.specs.Store.{read, value_type}
use Rattle.rules.specs.Value.{shared_with, shared, inline_type, type_for}
use Rattle.variable.specs.View.{seen, view}
use Rattle.piece.proofs.PieceLaws.{part_end, part_more}

module _ (c : Card) (s : List ℕ) (from end : ℕ) where
  pub shared_none : end ≤ from → 0 ≡ shared c (named (part s from end))
  unfolding shared named
  shared_none h = rw (part_end s from end h)

  pub shared_first : from < end → end ≤ length s → (t : ℕ) → t ≡ value_type (read c (get_or s from 0)) → shared_with t c (named (part s (from + 1) end)) ≡ shared c (named (part s from end))
  unfolding shared named
  shared_first h k t e = rw (part_more s from end h k, e)

  -- `t` is the first variable's type
  module _ (t at : ℕ) (inv : shared_with t c (named (part s at end)) ≡ shared c (named (part s from end))) where
    pub shared_done : end ≤ at → t ≡ shared c (named (part s from end))
    unfolding shared_with named
    shared_done h = rw (part_end s at end h) at inv

    module _ (h : at < end) (k : end ≤ length s) (u : ℕ) (e : u ≡ value_type (read c (get_or s at 0))) where
      pub shared_more : u ≡ t → shared_with t c (named (part s (at + 1) end)) ≡ shared c (named (part s from end))
      unfolding shared_with named
      shared_more x = simp (part_more s at end h k, ← e, eq-eqb _ _ x) at inv

      pub shared_other : (u ≡ t → ⊥) → 0 ≡ shared c (named (part s from end))
      unfolding shared_with named
      shared_other x = simp (part_more s at end h k, ← e, ne_eqb _ _ x) at inv

pub ruleset shared_laws = (shared_none, shared_first, shared_done, shared_other)

module _ (s : List ℕ) (tag start stop : ℕ) (a t : ℕ) (e : a ≡ attribute s tag start stop) (f : t ≡ type_of (a % 8)) where
  own : t ≡ type_of (attribute s tag start stop % 8)
  own = rw e at f

  pub inline_page : t ≡ 0 → (p : ℕ) → p ≡ page_type s → p ≡ inline_type s tag start stop
  unfolding inline_type
  inline_page x p y = simp (← own, eq-eqb _ _ x) y

  pub inline_own : (t ≡ 0 → ⊥) → t ≡ inline_type s tag start stop
  unfolding inline_type
  inline_own x = simp (← own, ne_eqb _ _ x)

pub ruleset inline_laws = (inline_page, inline_own)

module _ (page env temp perm : List ℕ) (tag start stop t : ℕ) where
  pub type_list : tag ≡ 0x0D → t ≡ shared (view page env temp perm) (named (part page start stop)) → t ≡ type_for (view page env temp perm) tag start stop
  unfolding type_for view seen
  type_list h e = simp (eq-eqb _ _ h) e

  pub type_inline : (tag ≡ 0x0D → ⊥) → t ≡ inline_type page tag start stop → t ≡ type_for (view page env temp perm) tag start stop
  unfolding type_for view seen
  type_inline h e = simp (ne_eqb _ _ h) e

pub ruleset type_laws = (type_list, type_inline)
