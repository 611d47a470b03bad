-- A TLV depends on the bytes before its end alone, and so do the counts of a row that is read further.
-- Assumes nothing.
use Prim.Native.Nat.{ℕ, ◌+◌, ◌-◌, ◌≤◌, ◌<◌, ◌%◌}
use mathlib.Core.Bool.{cond}
use mathlib.Core.List.{List}
use mathlib.Core.Path.{◌≡◌, refl, sym, subst, ap, ◌∙◌}
use native.Mathlib.Omega.{arith}
use lib.ListN.{get_or}
use lib.Dec.{ltb, leb, eqb}
use borrow.Author.Tests.{le-ltb, lt-leb, eqb-true}
use Rattle.rules.specs.Tlv.{length_at, head_at, head_of}
use Rattle.rules.specs.Tlvs.{tlvs, plain, count_in, count}
use Rattle.leaf.proofs.Cases.{both}
use Rattle.tlv.proofs.Bounds.{length_got, head_tlv}
use Rattle.tlv.proofs.Rows.{tlvs_done, tlvs_tlv}
use Rattle.std.specs.Prelude.{Option, Some, None}
use Rattle.rules.specs.declared.Tlv.{Tlv}
use Rattle.rules.specs.Built.{some_tlv}

abbrev LengthTo : List ℕ → ℕ → ℕ → Option (ℕ × ℕ) → Type 0
LengthTo s at p (Some q) = q.1 ≤ p → length_at s at p ≡ Some (q.0, q.1)
LengthTo s at p None = Unit {0}

length_to : (s : List ℕ) (at end p : ℕ) → LengthTo s at p (length_at s at end)
unfolding length_at
length_to s at end p =
    both (leb end at) (λ t. simp t tt) (λ t.
    both (ltb (get_or s at 0) 128) (λ t2. simp (t, t2) (λ h. simp (lt-leb p at (omega arith)))) (λ t2.
    both (eqb (get_or s at 0) 129) (λ t3. both (ltb (end - at) 2) (λ t4. simp (t, t2, t3, t4) tt) (λ t4. simp (t, t2, t3, t4) (λ h. simp (lt-leb p at (omega arith), le-ltb (p - at) 2 (omega arith))))) (λ t3.
    both (eqb (get_or s at 0) 130) (λ t4. both (ltb (end - at) 3) (λ t5. simp (t, t2, t3, t4, t5) tt) (λ t5. simp (t, t2, t3, t4, t5) (λ h. simp (lt-leb p at (omega arith), le-ltb (p - at) 3 (omega arith)))))
    (λ t4. simp (t, t2, t3, t4) tt))))

abbrev HeadTo : List ℕ → ℕ → ℕ → Option Tlv → Type 0
HeadTo s at p (Some h) = h.stop ≤ p → head_at s at p ≡ some_tlv h.tag h.start h.stop
HeadTo s at p None = Unit {0}

head_of_to : (s : List ℕ) (at end p : ℕ) (l : Option (ℕ × ℕ)) → length_at s (at + 1) end ≡ l → LengthTo s (at + 1) p l → HeadTo s at p (head_of (get_or s at 0) end l)
unfolding head_at head_of
head_of_to s at end p (Some q) e to =
    let b = length_got s (at + 1) end e in
    both (ltb (end - q.1) q.0) (λ t. simp t tt) (λ t. simp t (λ h. simp (lt-leb p at (omega arith), to (omega arith), le-ltb (p - q.1) q.0 (omega arith))))
head_of_to s at end p None e to = tt

head_to : (s : List ℕ) (at end p : ℕ) → HeadTo s at p (head_at s at end)
unfolding head_at
head_to s at end p = both (leb end at) (λ t. simp t tt) (λ t. simp t (head_of_to s at end p (length_at s (at + 1) end) refl (length_to s (at + 1) end p)))

pub head_front : (s : List ℕ) (at end p : ℕ) {v : Tlv} → head_at s at end ≡ Some v → v.stop ≤ p → head_at s at p ≡ Some v
head_front s at end p e = subst (HeadTo s at p) e (head_to s at end p)

-- so many of those that there is room for are left, after the TLVs with a tag from a place on
unfoldable pub Counted : ℕ → List ℕ → ℕ → ℕ → ℕ → ℕ → ℕ → Type 0
Counted tag s gap from room at left = (left ≤ room) × ((p : ℕ) → at ≤ p → count tag (tlvs gap s from p) ≡ count_in tag (room - left) (tlvs gap s at p))

module _ (counted : ℕ) (s : List ℕ) (gap from room : ℕ) where
  pub counted_none : Counted counted s gap from room from room
  unfolding Counted count
  counted_none = (omega arith, λ p h. let z : room - room ≡ 0 = omega arith in simp z)

  module _ (at left : ℕ) (inv : Counted counted s gap from room at left) where
    pub counted_here : gap ≡ 0 → count counted (tlvs 0 s from (at + gap)) ≡ room - left
    unfolding Counted count_in
    counted_here g =
        let z : at + gap ≡ at = omega arith in
        ap (λ n. count counted (tlvs n s from (at + gap))) (sym g) ∙ ap (λ p. count counted (tlvs gap s from p)) z ∙ inv.1 at (omega arith) ∙ simp (tlvs_done gap s at at (omega arith))

    pub counted_on : (end : ℕ) {v : Tlv} → head_at s (at + gap) end ≡ Some v → (v.tag % 128 ≡ counted → 0 < left)
        → (less : ℕ) → less ≡ cond (eqb (plain v.tag) counted) (left - 1) left → Counted counted s gap from room v.stop less
    unfolding Counted count_in plain
    counted_on end {v} e some less f =
        let b = head_tlv s (at + gap) end e in
        both (eqb (v.tag % 128) counted)
        (λ t. let l : less ≡ left - 1 = f ∙ simp t in
        let x = some (eqb-true (v.tag % 128) counted t) in
        let i = inv.0 in
        let z : room - less ≡ room - left + 1 = omega arith in (
          omega arith,
          λ p h. inv.1 p (omega arith) ∙ simp (tlvs_tlv gap s at p (omega arith) (head_front s (at + gap) end p e h), t, z),
        ))
        (λ t. let l : less ≡ left = f ∙ simp t in
        let i = inv.0 in (
          omega arith,
          λ p h. inv.1 p (omega arith) ∙ simp (tlvs_tlv gap s at p (omega arith) (head_front s (at + gap) end p e h), t, l),
        ))

-- the same where nothing stands between the TLVs
module _ (counted : ℕ) (s : List ℕ) (from room at left : ℕ) (inv : Counted counted s 0 from room at left) where
  here : at + 0 ≡ at
  here = omega arith

  pub row_counted_here : count counted (tlvs 0 s from at) ≡ room - left
  row_counted_here = sym (ap (λ p. count counted (tlvs 0 s from p)) here) ∙ counted_here counted s 0 from room at left inv refl

  pub row_counted_on : (end : ℕ) {v : Tlv} → head_at s at end ≡ Some v → (v.tag % 128 ≡ counted → 0 < left)
      → (less : ℕ) → less ≡ cond (eqb (plain v.tag) counted) (left - 1) left → Counted counted s 0 from room v.stop less
  row_counted_on end {v} e =
      let e' : head_at s (at + 0) end ≡ Some v = rw here e in
      counted_on counted s 0 from room at left inv end e'
