-- A branch to an anchor of the page's own gets 17 exactly when no unit holds it. Assumes nothing.
use Prim.Native.Nat.{ℕ, ◌+◌, ◌-◌}
use mathlib.Core.Path.{◌≡◌, refl, sym, ◌∙◌}
use mathlib.Core.Bool.{true, false}
use mathlib.Core.List.{List}
use native.Mathlib.Omega.{arith}
use borrow.Author.Tests.{ne_eqb}
use lib.Dec.{eqb}
use lib.ListN.{length, take, drop}
use Rattle.rules.specs.Tlvs.{Tlvs, done, past, tlv, plain}
use Rattle.rules.specs.Page.{row_of, part_in, page_row, unit_in, unit_at, anchor_in, anchor, holds}
use Rattle.rules.specs.Reference.{unit_from, own_unit, is_own, mark, target_by, target}
use Rattle.rules.specs.Card.{Card}
use Rattle.rules.specs.Step.{refuses, branch_by, branch}
use Rattle.rules.specs.declared.Target.{Target}
use Rattle.rules.specs.declared.Target.TheVariants.{Unit, Lacking, Other}
use Rattle.rules.specs.declared.Refusal.TheVariants.{Anchor}
use Rattle.rules.proofs.Choices.{both}
use Rattle.std.specs.Prelude.{Some}
use Rattle.rules.specs.Built.{some_tlv}

unit_lacking : (k : ℕ) → Unit k ≡ Lacking → ⊥
unit_lacking k e = let z : ◌≡◌ {A = ℕ} 0 1 = cc in omega arith

module _ (s name : List ℕ) where
  -- no unit of a row holds the name
  abbrev None : Tlvs → Type 0
  None r = (j : ℕ) → holds s name (anchor_in s (unit_in j r)) ≡ false

  unit_none : (tag at start stop : ℕ) (rest : Tlvs) → holds s name (anchor_in s (some_tlv tag start stop)) ≡ false → None rest → None (tlv tag at start stop rest)
  unfolding unit_in
  unit_none tag at start stop rest h f j =
      both (eqb (plain tag) 0x0A)
      (λ t. both (eqb j 0) (λ z. simp (t, z) h) (λ z. simp (t, z) (f (j - 1))))
      (λ t. simp t (f j))

  other_none : (tag at start stop : ℕ) (rest : Tlvs) → eqb (plain tag) 0x0A ≡ false → None rest → None (tlv tag at start stop rest)
  unfolding unit_in
  other_none tag at start stop rest t f j = simp t (f j)

  lacking_none : (k : ℕ) (r : Tlvs) → unit_from s name k r ≡ Lacking → None r
  unfolding unit_from unit_in anchor_in row_of part_in holds
  lacking_none k (done p) h = λ j. refl
  lacking_none k (past p) h = λ j. refl
  lacking_none k (tlv tag at start stop rest) h =
      both (eqb (plain tag) 0x0A)
      (λ t. both (holds s name (anchor_in s (some_tlv tag start stop)))
      (λ u. let z : ◌≡◌ {A = Target} (Unit k) Lacking = simp (t, u) at h in absurd (unit_lacking k z))
      (λ u. unit_none tag at start stop rest u (lacking_none (k + 1) rest (simp (t, u) at h))))
      (λ t. other_none tag at start stop rest t (lacking_none k rest (simp t at h)))

  none_unit : (tag at start stop : ℕ) (rest : Tlvs) → eqb (plain tag) 0x0A ≡ true → None (tlv tag at start stop rest) → (holds s name (anchor_in s (some_tlv tag start stop)) ≡ false) × None rest
  unfolding unit_in
  none_unit tag at start stop rest t f = (simp t at (f 0), λ j. simp (t, ne_eqb (j + 1) 0 (λ e. omega arith), back j) at (f (j + 1)))
    where
      back : (j : ℕ) → j + 1 - 1 ≡ j
      back j = omega arith

  none_lacking : (k : ℕ) (r : Tlvs) → None r → unit_from s name k r ≡ Lacking
  unfolding unit_from unit_in
  none_lacking k (done p) h = refl
  none_lacking k (past p) h = refl
  none_lacking k (tlv tag at start stop rest) h =
      both (eqb (plain tag) 0x0A)
      (λ t. let (u, f) = none_unit tag at start stop rest t h in simp (t, u) (none_lacking (k + 1) rest f))
      (λ t. simp t (none_lacking k rest (λ j. simp t at (h j))))

-- A reference to an anchor of the page itself: its page part is empty or names the page, and it has an anchor part.
pub record OwnAnchor (s r : List ℕ) (n : ℕ) : Type 0 where
  pub split : mark r ≡ Some n
  pub own : is_own s (take n r) ≡ true
  pub named : length (drop (n + 1) r) ≡ 0 → ⊥

module _ (c : Card) (r : List ℕ) (n : ℕ) (h : OwnAnchor c.run.page r n) where
  target_own : target c.run.page r ≡ unit_from c.run.page (drop (n + 1) r) 0 (page_row c.run.page)
  unfolding target target_by own_unit
  target_own = simp (h.split, h.own, ne_eqb (length (drop (n + 1) r)) 0 h.named)

  planned : (t : Target) → branch_by c r t ≡ refuses Anchor → t ≡ Lacking
  unfolding branch_by
  planned (Unit k) e = absurd (let z : ◌≡◌ {A = ℕ} 0 1 = cc in omega arith)
  planned Lacking e = refl
  planned Other e = absurd (let z : ◌≡◌ {A = ℕ} 0 1 = cc in omega arith)

  -- The branch is refused exactly when no unit of the page holds the anchor.
  pub refused_then_none : branch c r ≡ refuses Anchor → (j : ℕ) → holds c.run.page (drop (n + 1) r) (anchor c.run.page j) ≡ false
  unfolding branch anchor unit_at
  refused_then_none e = lacking_none c.run.page (drop (n + 1) r) 0 (page_row c.run.page) (sym target_own ∙ planned _ e)

  pub none_then_refused : ((j : ℕ) → holds c.run.page (drop (n + 1) r) (anchor c.run.page j) ≡ false) → branch c r ≡ refuses Anchor
  unfolding branch branch_by anchor unit_at
  none_then_refused f = rw (target_own ∙ none_lacking c.run.page (drop (n + 1) r) 0 (page_row c.run.page) f) refl
