-- The ways through `slot_of` and `anchor_slot`, in the shape of their needs; and a name whose slot is not seen is not taken.
-- Assumes nothing.
use Rattle.rules.specs.Built.{some_tlv}
use Prim.Native.Nat.{ℕ, ◌+◌, ◌*◌, ◌-◌, ◌≤◌, ◌<◌, ◌%◌}
use mathlib.Core.Bool.{false}
use mathlib.Core.List.{List}
use mathlib.Core.Path.{◌≡◌, refl, sym, ap, ◌∙◌}
use native.Mathlib.Omega.{arith}
use native.Mathlib.Numerals.{add-one}
use lib.ListN.{length, get_or, set, take, drop, length-set, drop_of_length-le}
use lib.Seq.{drop-cons, get_or-set_same, get_or-set_other}
use lib.Dec.{eqb}
use borrow.Author.Tests.{lt-ltb, le-ltb, eq-eqb, ne_eqb}
use Rattle.rules.specs.Bytes.{same, part}
use Rattle.rules.specs.Tlv.{head_at}
use Rattle.rules.specs.Tlvs.{tlvs, plain}
use Rattle.rules.specs.Page.{content_at, row_of, page_row, part_in, anchor_in, holds}
use Rattle.rules.specs.Forms.{taken_in}
use Rattle.rules.proofs.Writes.{same_eq}
use Rattle.leaf.proofs.Cases.{both}
use Rattle.tlv.proofs.Bounds.{head_tlv, content_in}
use Rattle.tlv.proofs.Rows.{row_tlv}
use Rattle.page.proofs.Parts.{part_held}
use Rattle.faultless.specs.Clean.{slot_in, slot_of, part_slot, anchor_slot, UntakenHead, Untaken}
use Rattle.std.specs.Prelude.{Option, Some, None}
use Rattle.rules.specs.declared.Tlv.{Tlv}
use Rattle.rules.specs.declared.Span.{Span}

module _ (name : List ℕ) where
  pub slot_start : slot_in 0 (drop 0 name) ≡ slot_of name
  unfolding slot_of
  slot_start = refl

  module _ (i slot w : ℕ) (inv : slot_in slot (drop i name) ≡ w) where
    pub slot_done : length name ≤ i → slot ≡ w
    unfolding slot_in
    slot_done h = sym (simp (drop_of_length-le name h)) ∙ inv

    pub slot_on : i < length name → (b : ℕ) → b ≡ get_or name i 0 → slot_in ((slot * 31 + b) % 1024) (drop (i + 1) name) ≡ w
    unfolding slot_in
    slot_on h b e = sym (simp (drop-cons name i 0 h, add-one i, e)) ∙ inv

pub ruleset slot_laws = (slot_start, slot_done, slot_on)

module _ (s : List ℕ) (tag start stop : ℕ) where
  pub slot_other : (tag % 128 ≡ 0x0A → ⊥) → 1024 ≡ anchor_slot s tag start stop
  unfolding anchor_slot plain
  slot_other h = simp (ne_eqb (tag % 128) 0x0A h)

  module _ (h : tag % 128 ≡ 0x0A) (p : ℕ) (q : p ≡ content_at s tag start stop) (a : Option Span) (e : a ≡ part_in 0x0B (tlvs 0 s p stop)) where
    unit_slot : part_slot s a ≡ anchor_slot s tag start stop
    unfolding anchor_slot anchor_in row_of plain
    unit_slot = ap (part_slot s) (rw q at e) ∙ sym (simp (eq-eqb (tag % 128) 0x0A h))

    pub slot_missing : a ≡ None → 1024 ≡ anchor_slot s tag start stop
    unfolding part_slot
    slot_missing x = sym (ap (part_slot s) x) ∙ unit_slot

    module _ (v : Span) (x : a ≡ Some v) where
      pub slot_ordered : v.from ≤ v.end
      slot_ordered = let b = part_held s 0x0B p stop (sym e ∙ x) in omega arith

      pub slot_within : stop ≤ length s → v.end ≤ length s
      slot_within w = let b = part_held s 0x0B p stop (sym e ∙ x) in omega arith

      pub slot_held : (r : ℕ) → r ≡ slot_of (take (v.end - v.from) (drop v.from s)) → r ≡ anchor_slot s tag start stop
      unfolding part_slot part
      slot_held r f = f ∙ sym (ap (part_slot s) x) ∙ unit_slot

pub ruleset anchor_slot_laws = (slot_other, slot_missing, slot_ordered, slot_within, slot_held)

-- a name whose slot is not seen is that of no unit before a place
unfoldable pub Unseen : List ℕ → ℕ → ℕ → ℕ → List ℕ → Type 0
Unseen s from end at slots =
    (length slots ≡ 1025)
    × (tlvs 0 s from end ≡ page_row s → (name : List ℕ) (place : ℕ) → get_or slots (slot_of name) 0 ≡ 0 → at ≤ place
    → taken_in s name place (page_row s) ≡ taken_in s name place (tlvs 0 s at end))

pub unseen_start : (s : List ℕ) (from end : ℕ) (slots : List ℕ) → length slots ≡ 1025 → Unseen s from end from slots
unfolding Unseen
unseen_start s from end slots l = (l, λ w name place z h. sym (ap (taken_in s name place) w))

-- the anchor of another slot is another name
other_slot : (s name : List ℕ) (a : Option Span) → (part_slot s a ≡ slot_of name → ⊥) → holds s name a ≡ false
unfolding holds part_slot
other_slot s name (Some p) n = both (same (part s p.from p.end) name) (λ t. absurd (n (ap slot_of (same_eq (part s p.from p.end) name t)))) (λ t. t)
other_slot s name None n = refl

one_not : (x : ℕ) → x ≡ 1 → x ≡ 0 → ⊥
one_not x e z = omega arith

module _ (s : List ℕ) (from end at : ℕ) (slots : List ℕ) (inv : Unseen s from end at slots) (go : at < end) (h : Option Tlv) (is : h ≡ head_at s at end) (v : Tlv) (e : h ≡ Some v)
    (slot : ℕ) (se : slot ≡ anchor_slot s v.tag v.start v.stop) where
  pub unseen_on : slot < 1025 → Unseen s from end v.stop (set slots slot 1)
  unfolding Unseen taken_in anchor_slot plain
  unseen_on l = (
    length-set slots slot 1 ∙ inv.0,
    λ w name place z k.
        let b = head_tlv s at end (sym is ∙ e) in
        let m = inv.0 in
        let n : slot_of name ≡ slot → ⊥ = λ x. one_not (get_or (set slots slot 1) (slot_of name) 0) (ap (λ j. get_or (set slots slot 1) j 0) x ∙ get_or-set_same slots slot 1 0 (omega arith)) z in
        let y = sym (get_or-set_other slots slot (slot_of name) 1 0 n) ∙ z in
        inv.1 w name place y (omega arith)
        ∙ both (eqb (v.tag % 128) 0x0A)
        (λ u. let x : slot ≡ part_slot s (anchor_in s (some_tlv v.tag v.start v.stop)) = se ∙ simp u in
        simp (row_tlv s at end go (sym is ∙ e), le-ltb place v.stop k, u, other_slot s name (anchor_in s (some_tlv v.tag v.start v.stop)) (λ d. n (sym d ∙ sym x))))
        (λ u. simp (row_tlv s at end go (sym is ∙ e), le-ltb place v.stop k, u)),
  )

  module _ (w : tlvs 0 s from end ≡ page_row s) (u : v.tag % 128 ≡ 0x0A) (z : get_or slots slot 0 ≡ 0) where
    untaken : (q : Option Tlv) → head_at s (content_at s v.tag v.start v.stop) v.stop ≡ q → UntakenHead s (content_at s v.tag v.start v.stop) q
    unfolding Unseen taken_in anchor_slot anchor_in row_of part_in part_slot plain
    untaken None f = tt
    untaken (Some h) f = λ y.
        let i = head_tlv s at end (sym is ∙ e) in
        let c = content_in s v.tag v.start v.stop (omega arith) in
        let d = head_tlv s (content_at s v.tag v.start v.stop) v.stop f in
        let x : slot ≡ slot_of (part s h.start h.stop) = se ∙ simp (eq-eqb (v.tag % 128) 0x0A u, row_tlv s (content_at s v.tag v.start v.stop) v.stop (omega arith) f, eq-eqb h.tag 0x0B y) in
        inv.1 w (part s h.start h.stop) (content_at s v.tag v.start v.stop) (sym (ap (λ j. get_or slots j 0) x) ∙ z) (omega arith)
        ∙ simp (row_tlv s at end go (sym is ∙ e), lt-ltb (content_at s v.tag v.start v.stop) v.stop (omega arith))

    pub unseen_here : Untaken s (content_at s v.tag v.start v.stop) v.stop
    unfolding Untaken
    unseen_here = untaken (head_at s (content_at s v.tag v.start v.stop) v.stop) refl
