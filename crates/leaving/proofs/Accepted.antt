-- Bounds that an accepted page keeps, and the history that a unit of it leaves.
-- Assumes nothing.
use Prim.Native.Nat.{ℕ, ◌-◌, ◌≤◌}
use mathlib.Core.Bool.{true}
use mathlib.Core.List.{List, ◌∷◌}
use mathlib.Core.Path.{◌≡◌, refl}
use native.Mathlib.Omega.{arith}
use lib.ListN.{length, length-append}
use borrow.Author.Tests.{ne_eqb, leb-true}
use Rattle.rules.specs.Bytes.{among}
use Rattle.rules.specs.Loader.{judge}
use Rattle.rules.specs.Shape.{number_in}
use Rattle.rules.specs.Forms.{size_of, sizes}
use Rattle.rules.specs.Page.{identification, service, password, anchor, bytes_of}
use Rattle.rules.specs.Reference.{reference}
use Rattle.rules.specs.Card.{History}
use Rattle.rules.specs.Keep.{guard_by}
use Rattle.rules.specs.IsCard.{guard_fine}
use Rattle.rules.specs.Trail.{recorded, left}
use Rattle.rules.proofs.IsolationRows.{length_part}
use Rattle.rules.proofs.StaysCardPage.{PartFine, page_fine, in_size}
use Rattle.leaf.proofs.Cases.{both}
use Rattle.leaving.specs.Leaving.{entry_for, left_by}
use Rattle.std.specs.Prelude.{Option, Some, None, Ok}
use Rattle.rules.specs.declared.Span.{Span}

password_size : (s : List ℕ) (p : Option Span) → guard_fine (guard_by s p) ≡ true → length (bytes_of s p) ≤ 16
unfolding guard_by guard_fine bytes_of
password_size s (Some p) e = leb-true _ _ e
password_size s None e = omega arith

anchor_size : (s : List ℕ) (p : Option Span) → PartFine s 0x0B p → length (bytes_of s p) ≤ 32
unfolding bytes_of size_of sizes number_in among
anchor_size s (Some p) h = rw (length_part s p.from p.end h.1) (in_size 96 (p.end - p.from) refl h.0).1
anchor_size s None h = omega arith

module _ (s : List ℕ) (e : judge s ≡ Ok tt) where
  pub accepted_service : length (service s) ≤ 16
  accepted_service = (page_fine s e).served

  pub accepted_name : length (identification s) ≤ 32
  accepted_name = (page_fine s e).name.1

  pub accepted_password : length (bytes_of s (password s)) ≤ 16
  accepted_password = password_size s (password s) (page_fine s e).guarded

  pub accepted_anchor : (k : ℕ) → length (bytes_of s (anchor s k)) ≤ 32
  accepted_anchor k = anchor_size s (anchor s k) ((page_fine s e).anchored k)

-- an entry is never empty, so its length tells whether the unit is recorded
reference_long : (name anchor : List ℕ) → length (reference name anchor) ≡ 0 → ⊥
unfolding reference
reference_long name anchor e = let l = length-append name (0x23 ∷ anchor) in absurd (omega arith)

pub left_by_lem : (s : List ℕ) (k : ℕ) (h : History) → left_by (entry_for s k) h ≡ left s k h
unfolding left_by entry_for left
left_by_lem s k h =
    both (recorded s k)
    (λ t. simp (t, ne_eqb _ _ (reference_long (identification s) (bytes_of s (anchor s k)))))
    (λ t. simp t)
