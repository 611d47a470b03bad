-- The ways through `entry_into` and `leave`, in the shape of what their proofs need.
-- Assumes nothing.
use Prim.Native.Nat.{ℕ, ◌+◌, ◌≤◌, ◌<◌}
use mathlib.Core.Bool.{Bool, true, false}
use mathlib.Core.List.{List, [], ◌∷◌, ◌++◌, append_assoc}
use mathlib.Core.Path.{◌≡◌, refl, sym, ap, ◌∙◌}
use native.Mathlib.Omega.{arith}
use lib.ListN.{length, take, drop, length-take}
use lib.Seq.{length-take-le, take-append-add, take-append_seam}
use borrow.Author.Tests.{eq-eqb, ne_eqb}
use Rattle.rules.specs.Bytes.{part}
use Rattle.rules.specs.Loader.{judge}
use Rattle.rules.specs.Page.{identification, page_part, anchor, bytes_of, is_held, unrecorded}
use Rattle.rules.specs.Reference.{reference}
use Rattle.rules.specs.Card.{History}
use Rattle.rules.specs.Trail.{recorded, pushed, topped}
use Rattle.pour.specs.Pour.{poured}
use Rattle.pour.proofs.PourLaws.{length_poured}
use Rattle.leaving.specs.Leaving.{entry_for, left_by}
use Rattle.leaving.proofs.Accepted.{accepted_name, accepted_anchor}
use Rattle.std.specs.Prelude.{Option, None, Ok, Some}
use Rattle.rules.specs.declared.Span.{Span}

-- what stands up to the end of the bytes poured in
poured_front : (a : List ℕ) (at : ℕ) (b : List ℕ) → at ≤ length a → take (at + length b) (poured a at b) ≡ take at a ++ b
unfolding poured
poured_front a at b h =
    let l = length-take-le at a h in
    let e = take-append-add (take at a) (b ++ drop (length b) (drop at a)) (length b) in
    (rw l at e) ∙ ap (λ (x : List ℕ). take at a ++ x) (take-append_seam b (drop (length b) (drop at a)))

pub lay_is : (a name anchor x y z : List ℕ) (mark : List ℕ) → length a ≡ 65 → length name ≤ 32 → length anchor ≤ 32 → mark ≡ 0x23 ∷ [] →
    x ≡ poured a 0 name → y ≡ poured x (length name) mark → z ≡ poured y (length name + 1) anchor → take (length name + 1 + length anchor) z ≡ name ++ 0x23 ∷ anchor
lay_is a name anchor x y z mark l m n w d e f =
    let o : 0 + length name ≡ length name = omega arith in
    let p : take (length name) x ≡ name = rw d (ap (λ (n : ℕ). take n (poured a 0 name)) (sym o) ∙ poured_front a 0 name (omega arith)) in
    let k : length x ≡ 65 = rw d (length_poured a 0 name (omega arith) ∙ l) in
    let q : take (length name + 1) y ≡ name ++ 0x23 ∷ [] = rw (e, w) (poured_front x (length name) (0x23 ∷ []) (omega arith) ∙ ap (λ (r : List ℕ). r ++ 0x23 ∷ []) p) in
    let i : length y ≡ 65 = rw (e, w) (length_poured x (length name) (0x23 ∷ []) (omega arith) ∙ k) in
    rw f (poured_front y (length name + 1) anchor (omega arith) ∙ ap (λ (r : List ℕ). r ++ anchor) q ∙ append_assoc name (0x23 ∷ []) anchor)

pub join_name : (n a e : List ℕ) → 32 < length n → (length n ≤ 32 → length a ≤ 32 → e ≡ n ++ 0x23 ∷ a)
join_name n a e h i = absurd (omega arith)

pub join_anchor : (n a e : List ℕ) → 32 < length a → (length n ≤ 32 → length a ≤ 32 → e ≡ n ++ 0x23 ∷ a)
join_anchor n a e h i j = absurd (omega arith)

pub join_is : (n a e : List ℕ) → e ≡ n ++ 0x23 ∷ a → (length n ≤ 32 → length a ≤ 32 → e ≡ n ++ 0x23 ∷ a)
join_is n a e h i j = h

pub ruleset join_laws = (lay_is, join_name, join_anchor, join_is)

module _ (s : List ℕ) (p : Option Span) (is : p ≡ page_part s 0x02) where
  pub name_none : p ≡ None → (v : List ℕ) → v ≡ part s 0 0 → v ≡ identification s
  unfolding identification bytes_of part
  name_none x v y = y ∙ sym (simp (sym is ∙ x))

  pub name_held : (w : Span) → p ≡ Some w → (v : List ℕ) → v ≡ part s w.from w.end → v ≡ identification s
  unfolding identification bytes_of
  name_held w x v y = y ∙ sym (simp (sym is ∙ x))

pub ruleset name_laws = (name_none, name_held)

module _ (s : List ℕ) (k : ℕ) (p : Option Span) (is : p ≡ anchor s k) where
  pub entry_none : p ≡ None → (judge s ≡ Ok tt → [] ≡ entry_for s k)
  unfolding entry_for recorded is_held
  entry_none x _ = sym (simp (sym is ∙ x))

  module _ (z : Span) (x : p ≡ Some z) (u : Bool) (f : u ≡ unrecorded s k) where
    pub entry_flag : u ≡ true → (judge s ≡ Ok tt → [] ≡ entry_for s k)
    unfolding entry_for recorded is_held
    entry_flag t _ = sym (simp (sym is ∙ x, sym f ∙ t))

    held_bytes : (v : List ℕ) → v ≡ part s z.from z.end → bytes_of s (anchor s k) ≡ v
    unfolding bytes_of
    held_bytes v h = simp (sym is ∙ x) (sym h)

    recorded_is : u ≡ false → recorded s k ≡ true
    unfolding recorded is_held
    recorded_is t = simp (sym is ∙ x, sym f ∙ t)

    pub entry_held : u ≡ false → (n v e : List ℕ) → n ≡ identification s → v ≡ part s z.from z.end → (length n ≤ 32 → length v ≤ 32 → e ≡ n ++ 0x23 ∷ v) → (judge s ≡ Ok tt → e ≡ entry_for s k)
    unfolding entry_for reference
    entry_held t n v e g h w j =
        let d = held_bytes v h in
        w (rw g (accepted_name s j)) (rw (← d) (accepted_anchor s j k)) ∙ sym (rw (recorded_is t, d, ← g) refl)

pub ruleset entry_laws = (entry_none, entry_flag, entry_held)

module _ (e : List ℕ) (g h : History) where
  pub leave_none : length e ≡ 0 → g ≡ topped (take h.pointer h.entries) → g ≡ left_by e h
  unfolding left_by
  leave_none l x = x ∙ sym (simp (eq-eqb _ _ l))

  pub leave_some : (length e ≡ 0 → ⊥) → g ≡ topped (pushed (take h.pointer h.entries) e) → g ≡ left_by e h
  unfolding left_by
  leave_some l x = x ∙ sym (simp (ne_eqb _ _ l))

module _ (e : List ℕ) (n : ℕ) (h : n ≤ 65) where
  pub entry_counts : length e ≡ 65 → n ≡ length (take n e)
  entry_counts l = sym (length-take-le n e (omega arith))

  pub entry_short : length (take n e) ≤ 65
  entry_short = let l = length-take n e in omega arith

pub ruleset leave_laws = (leave_none, leave_some, entry_counts, entry_short)
