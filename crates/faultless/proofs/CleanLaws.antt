-- Where `settled_look`, `clean_look` and `clean` find nothing, no class from 3 on does, in the shape of their needs.
-- Assumes nothing.
use Prim.Native.Nat.{ℕ, ◌+◌, ◌-◌, ◌≤◌, ◌<◌, ◌%◌}
use mathlib.Core.Bool.{Bool, true, false, cond, not}
use mathlib.Core.List.{List}
use mathlib.Core.Path.{◌≡◌, refl, sym, subst, ap, ◌∙◌}
use native.Mathlib.Omega.{arith}
use lib.Dec.{eqb, ltb, leb}
use borrow.Author.Tests.{le-ltb, lt-leb, eq-eqb, ne_eqb, eqb-true, eqb-false, ltb-true, leb-true}
use Rattle.rules.specs.declared.Body.{Body}
use Rattle.rules.specs.declared.Body.TheVariants.{Inner, Leaf}
use Rattle.rules.specs.declared.Look.{Look}
use Rattle.rules.specs.declared.Look.TheVariants.{Fault, Over, Into}
use Rattle.rules.specs.Tlv.{head_at}
use Rattle.rules.specs.Tlvs.{tlvs, plain, count}
use Rattle.rules.specs.Grammar.{cell_of, gap_of, lacks, unit_kind, command_kind}
use Rattle.rules.specs.Shape.{body_of}
use Rattle.rules.specs.Page.{page_row}
use Rattle.rules.specs.Forms.{bad_anchor, crowded}
use Rattle.rules.specs.Loader.{shape_look, judged_look, look, or_then, floor, lacking, goes, row_fault, walk}
use Rattle.leaf.proofs.Cases.{both}
use Rattle.tlv.proofs.Bounds.{head_tlv}
use Rattle.tlv.proofs.Rows.{tlvs_tlv}
use Rattle.shape.proofs.BodyLaws.{body_inner}
use Rattle.forms.specs.Sound.{Seen}
use Rattle.forms.proofs.NameLaws.{anchor_none, crowded_none}
use Rattle.faultless.specs.Clean.{Admitted, Shaped, Settled, Agreed, FreshHead, Fresh, Known, Clean}
use Rattle.classes.proofs.LookLaws.{look_into}
use Rattle.classes.proofs.WalkLaws.{t_less, t_within, Left, w_floor, w_start, w_done}
use Rattle.faultless.proofs.Front.{Counted, counted_none, counted_here, counted_on}
use Rattle.std.specs.Prelude.{Option, None, Some}
use Rattle.rules.specs.declared.Tlv.{Tlv}

pub is_so : (b : Bool) → not b ≡ false → b ≡ true
is_so true e = refl
is_so false e = cc

module _ (anchor gap units modifiers at tag : ℕ) where
  pub admitted_anchor : tag ≡ 0x0B → eqb at anchor ≡ true → Admitted anchor gap units modifiers at tag
  unfolding Admitted
  admitted_anchor t x = (
    λ z. eqb-true at anchor x,
    λ z. let no : ⊥ = omega arith in absurd no,
    λ z. let no : ⊥ = omega arith in absurd no,
  )

  module _ (t : tag ≡ 0x0B → ⊥) where
    pub admitted_unit : tag % 128 ≡ 0x0A → gap ≡ 0 → ltb 0 units ≡ true → Admitted anchor gap units modifiers at tag
    unfolding Admitted
    admitted_unit u g x = (
      λ z. absurd (t z),
      λ z. (g, ltb-true 0 units x),
      λ z. let no : ⊥ = omega arith in absurd no,
    )

    pub admitted_modifier : tag % 128 ≡ 0x08 → gap ≡ 0 → ltb 0 modifiers ≡ true → Admitted anchor gap units modifiers at tag
    unfolding Admitted
    admitted_modifier u g x = (
      λ z. absurd (t z),
      λ z. let no : ⊥ = omega arith in absurd no,
      λ z. (g, ltb-true 0 modifiers x),
    )

    pub admitted_other : (tag % 128 ≡ 0x0A → ⊥) → (tag % 128 ≡ 0x08 → ⊥) → true ≡ true → Admitted anchor gap units modifiers at tag
    unfolding Admitted
    admitted_other u v x = (λ z. absurd (t z), λ z. absurd (u z), λ z. absurd (v z))

pub ruleset admitted_laws = (admitted_anchor, admitted_unit, admitted_modifier, admitted_other)

module _ (left counted tag : ℕ) where
  pub after_one_lem : tag % 128 ≡ counted → (r : ℕ) → r ≡ left - 1 → r ≡ cond (eqb (plain tag) counted) (left - 1) left
  unfolding plain
  after_one_lem t r e = e ∙ simp (eq-eqb (tag % 128) counted t)

  pub after_other : (tag % 128 ≡ counted → ⊥) → left ≡ cond (eqb (plain tag) counted) (left - 1) left
  unfolding plain
  after_other t = simp (ne_eqb (tag % 128) counted t)

pub ruleset after_laws = (after_one_lem, after_other)

module _ (s : List ℕ) (within at tag start stop below : ℕ) where
  pub settled_fault : (Fault ≡ Fault → ⊥) → Settled s within at tag start stop below Fault
  settled_fault n = absurd (n refl)

  module _ (b : Body) (e : b ≡ body_of s within tag start stop) where
    pub settled_leaf : b ≡ Leaf → (Over ≡ Fault → ⊥) → Settled s within at tag start stop below Over
    unfolding Settled shape_look judged_look goes
    settled_leaf x n = let y : body_of s within tag start stop ≡ Leaf = sym e ∙ x in (simp y, λ rest. simp y)

    module _ (kind p : ℕ) (x : b ≡ Inner kind p) where
      inner : body_of s within tag start stop ≡ Inner kind p
      inner = sym e ∙ x

      pub settled_in : start ≤ stop → p ≤ stop
      settled_in h = body_inner s within tag start stop h inner

      pub settled_command : kind ≡ command_kind → (r : Option ℕ) → r ≡ walk below s 3 kind at p stop → r ≡ None → (Over ≡ Fault → ⊥) → Settled s within at tag start stop below Over
      unfolding Settled shape_look judged_look goes or_then
      settled_command k r re rx n = (simp (inner, eq-eqb kind command_kind k), λ rest. simp (inner, sym re ∙ rx))

      pub settled_inner : (kind ≡ command_kind → ⊥) → (Into kind p ≡ Fault → ⊥) → Settled s within at tag start stop below (Into kind p)
      unfolding Settled shape_look judged_look
      settled_inner k n = (simp (inner, ne_eqb kind command_kind k), λ rest. simp inner)

pub ruleset settled_laws = (settled_fault, settled_leaf, settled_in, settled_command, settled_inner)

module _ (s : List ℕ) (within anchor gap units modifiers last cell at tag start stop below : ℕ) where
  pub agreed_fault : (Fault ≡ Fault → ⊥) → Agreed s within anchor gap units modifiers last cell at tag start stop below Fault
  agreed_fault n = absurd (n refl)

  pub agreed : (a : Bool) → (a ≡ true → Admitted anchor gap units modifiers at tag) → a ≡ true
      → (b : Bool) → (b ≡ true → Seen s within last cell at tag start stop (judged_look (body_of s within tag start stop))) → b ≡ true
      → (r : Look) → ((r ≡ Fault → ⊥) → Settled s within at tag start stop below r) → (r ≡ Fault → ⊥) → Agreed s within anchor gap units modifiers last cell at tag start stop below r
  unfolding Agreed Settled
  agreed a ae ax b be bx r re n = (ae ax, λ class from c five six. be bx class from c five six ∙ sym (re n).0, (re n).1)

pub ruleset agreed_laws = (agreed_fault, agreed)

abbrev IsFault : Look → Type 0
IsFault Fault = Unit {0}
IsFault Over = ⊥
IsFault (Into kind p) = ⊥

pub over_not : (l : Look) → l ≡ Over → l ≡ Fault → ⊥
over_not l x f = subst IsFault (sym f ∙ x) tt

pub into_not : (l : Look) (kind p : ℕ) → l ≡ Into kind p → l ≡ Fault → ⊥
into_not l kind p x f = subst IsFault (sym f ∙ x) tt

-- what is gone into begins before the value's end
pub agreed_in : (s : List ℕ) (within anchor gap units modifiers last cell at tag start stop below : ℕ) (l : Look)
    → ((l ≡ Fault → ⊥) → Agreed s within anchor gap units modifiers last cell at tag start stop below l) → (kind p : ℕ) → l ≡ Into kind p → start ≤ stop → p ≤ stop
unfolding Agreed
agreed_in s within anchor gap units modifiers last cell at tag start stop below l ag kind p x h =
    look_into s 8 within last cell 0 at tag start stop h ((ag (into_not l kind p x)).1 8 0 (omega arith) (λ q. let no : ⊥ = omega arith in absurd no) (λ q. let no : ⊥ = omega arith in absurd no) ∙ x)

-- where class 3 comes to the same as the others see, each class does
pub goes_same : (s : List ℕ) (within last cell from at tag start stop below : ℕ) (l : Look) (class : ℕ) → 3 ≤ class → Shaped s within at tag start stop below l
    → (4 ≤ class → look s class within last cell from at tag start stop ≡ l) → (rest : Option ℕ)
    → goes (λ k o p e. walk below s class k o p e) at stop rest (look s class within last cell from at tag start stop) ≡ goes (λ k o p e. walk below s class k o p e) at stop rest l
unfolding look
goes_same s within last cell from at tag start stop below l class c three four rest =
    both (eqb class 3)
    (λ t. subst
    (λ (m : ℕ). goes (λ k o p e. walk below s m k o p e) at stop rest (look s m within last cell from at tag start stop) ≡ goes (λ k o p e. walk below s m k o p e) at stop rest l)
    (sym (eqb-true class 3 t))
    (three rest))
    (λ t. let d = eqb-false class 3 t in ap (goes (λ k o p e. walk below s class k o p e) at stop rest) (four (omega arith)))

-- with fewer than 32 modifiers before it, those of the page counted too, one is not too many
few : (s : List ℕ) (within from at tag n : ℕ) → (tag % 128 ≡ 0x0A → ⊥) → tag % 128 ≡ 0x08 → count 0x08 (tlvs 0 s from at) ≡ n → n + count 0x08 (page_row s) < 32 → crowded s within from at tag ≡ false
unfolding crowded plain
few s within from at tag n t u e h =
    both (eqb within unit_kind)
    (λ w. simp (ne_eqb (tag % 128) 0x0A t, eq-eqb (tag % 128) 0x08 u, w, e, lt-leb 32 (count 0x08 (page_row s) + n) (omega arith)))
    (λ w. simp (ne_eqb (tag % 128) 0x0A t, eq-eqb (tag % 128) 0x08 u, w, e, lt-leb 32 n (omega arith)))

-- what is left of a row comes to what the row comes to, for each class
unfoldable pub Rest : List ℕ → ℕ → ℕ → ℕ → ℕ → ℕ → ℕ → ℕ → ℕ → ℕ → Type 0
Rest s within anchor room from gap end left at last =
    (class own : ℕ) → 3 ≤ class → Known s class anchor room end → Left s class within from gap end left at last (walk left s class within own from end)

floor_none : (class within from end : ℕ) → end - from ≤ gap_of within → None ≡ floor class within from end
unfolding floor
floor_none class within from end h = both (eqb class 3) (λ t. simp (t, le-ltb (gap_of within) (end - from) h)) (λ t. simp t)

pub lack_none : (s : List ℕ) (class within from end : ℕ) (b : Bool) → b ≡ lacks within end (tlvs (gap_of within) s from end) → b ≡ false
    → false ≡ lacking class within end (tlvs (gap_of within) s from end)
unfolding lacking
lack_none s class within from end b e x = both (eqb class 4) (λ t. simp (t, sym e ∙ x)) (λ t. simp t)

known_below : (s : List ℕ) (class anchor room end stop : ℕ) → Known s class anchor room end → Known s class stop 0 stop
unfolding Known
known_below s class anchor room end stop k = (λ q h. let no : ⊥ = omega arith in absurd no, λ q. let y = k.1 q in omega arith)

module _ (s : List ℕ) (within anchor room from end left : ℕ) where
  pub c_floor : left ≡ 0 → (gap : ℕ) → gap ≡ gap_of within → leb (end - from) gap ≡ true → Clean s within anchor room from end left
  unfolding Clean
  c_floor z gap g x class own c k = let h = leb-true (end - from) gap x in sym (w_floor s class within own from end left z None (floor_none class within from end (omega (arith, g))))

  pub c_start : (left ≡ 0 → ⊥) → (b : Bool) → b ≡ lacks within end (tlvs (gap_of within) s from end) → b ≡ false → (gap : ℕ) → gap ≡ gap_of within
      → Rest s within anchor room from gap end left from 0
  unfolding Rest
  c_start z b e x gap g class own c k = w_start s class within own from end left z false (lack_none s class within from end b e x) refl gap g

module _ (s : List ℕ) (within anchor room from gap end left at last modifiers : ℕ) (inv : Rest s within anchor room from gap end left at last) where
  pub c_done : end - at ≤ gap → true ≡ true → Clean s within anchor room from end left
  unfolding Rest Clean
  c_done h x class own c k = sym (w_done s class within from gap end left at last _ (inv class own c k) h)

  module _ (cnt : Counted 0x08 s gap from room at modifiers) (go : gap < end - at) (h : Option Tlv) (is : h ≡ head_at s (at + gap) end) (v : Tlv) (e : h ≡ Some v) where
    module _ (cell : ℕ) (ce : cell ≡ cell_of within v.tag) (l : Look) (ag : (l ≡ Fault → ⊥) → Agreed s within anchor gap 0 modifiers last cell (at + gap) v.tag v.start v.stop (left - 1) l) (n : l ≡ Fault → ⊥) where
      admitted : Admitted anchor gap 0 modifiers (at + gap) v.tag
      unfolding Agreed
      admitted = (ag n).0

      anchored : (class : ℕ) → Known s class anchor room end → class ≡ 5 → bad_anchor s (at + gap) v.tag v.start v.stop ≡ false
      unfolding Admitted Known Fresh
      anchored class k q =
          both (eqb v.tag 0x0B)
          (λ x. let y = eqb-true v.tag 0x0B x in
          let p = admitted.0 y in
          let b = head_tlv s (at + gap) end (sym is ∙ e) in
          let f = subst (FreshHead s anchor) (sym (ap (λ p. head_at s p end) p) ∙ sym is ∙ e) (k.0 q (omega arith)) y in
          ap (λ p. bad_anchor s p v.tag v.start v.stop) p ∙ f)
          (λ x. sym (anchor_none s (at + gap) v.tag v.start v.stop (eqb-false v.tag 0x0B x)))

      uncrowded : (class : ℕ) → Known s class anchor room end → class ≡ 6 → crowded s within from (at + gap) v.tag ≡ false
      unfolding Admitted Known Counted
      uncrowded class k q =
          both (eqb (v.tag % 128) 0x0A)
          (λ x. let y = admitted.1 (eqb-true (v.tag % 128) 0x0A x) in let no : ⊥ = omega arith in absurd no)
          (λ x. both (eqb (v.tag % 128) 0x08)
          (λ y. let z = admitted.2 (eqb-true (v.tag % 128) 0x08 y) in
          let i = cnt.0 in
          let w = k.1 q in
          few s within from (at + gap) v.tag (room - modifiers) (eqb-false (v.tag % 128) 0x0A x) (eqb-true (v.tag % 128) 0x08 y) (counted_here 0x08 s gap from room at modifiers cnt z.0) (omega arith))
          (λ y. sym (crowded_none s within from (at + gap) v.tag (eqb-false (v.tag % 128) 0x0A x) (eqb-false (v.tag % 128) 0x08 y))))

      same : (class : ℕ) → 4 ≤ class → Known s class anchor room end → look s class within last cell from (at + gap) v.tag v.start v.stop ≡ l
      unfolding Agreed
      same class c k = (ag n).1 class from c (λ q. anchored class k q) (λ q. uncrowded class k q)

      shaped : Shaped s within (at + gap) v.tag v.start v.stop (left - 1) l
      unfolding Agreed
      shaped = (ag n).2

      here : (class : ℕ) → row_fault s class (λ k o p e. walk (left - 1) s class k o p e) within from last (tlvs gap s at end)
          ≡ goes (λ k o p e. walk (left - 1) s class k o p e) (at + gap) v.stop (row_fault s class (λ k o p e. walk (left - 1) s class k o p e) within from cell (tlvs gap s v.stop end))
          (look s class within last cell from (at + gap) v.tag v.start v.stop)
      unfolding row_fault
      here class = simp (tlvs_tlv gap s at end go (sym is ∙ e), sym ce)

      on : (class : ℕ) → 3 ≤ class → Known s class anchor room end
          → row_fault s class (λ k o p e. walk (left - 1) s class k o p e) within from last (tlvs gap s at end)
          ≡ goes (λ k o p e. walk (left - 1) s class k o p e) (at + gap) v.stop (row_fault s class (λ k o p e. walk (left - 1) s class k o p e) within from cell (tlvs gap s v.stop end)) l
      on class c k = here class ∙ goes_same s within last cell from (at + gap) v.tag v.start v.stop (left - 1) l class c shaped (λ d. same class d k) _

      count_on : (less : ℕ) → less ≡ cond (eqb (plain v.tag) 0x08) (modifiers - 1) modifiers → Counted 0x08 s gap from room v.stop less
      unfolding Admitted
      count_on less f = counted_on 0x08 s gap from room at modifiers cnt end (sym is ∙ e) (λ q. (admitted.2 q).1) less f

    module _ (cell : ℕ) (ce : cell ≡ cell_of within v.tag) (l : Look) (ag : (l ≡ Fault → ⊥) → Agreed s within anchor gap 0 modifiers last cell (at + gap) v.tag v.start v.stop (left - 1) l) where
      module _ (x : l ≡ Over) where
        pub c_over : Rest s within anchor room from gap end left v.stop cell
        unfolding Rest goes
        c_over class own c k = sym (on cell ce l ag (over_not l x) class c k ∙ simp x) ∙ inv class own c k

        pub c_over_count : (less : ℕ) → less ≡ cond (eqb (plain v.tag) 0x08) (modifiers - 1) modifiers → Counted 0x08 s gap from room v.stop less
        c_over_count = count_on cell ce l ag (over_not l x)

      module _ (kind p : ℕ) (x : l ≡ Into kind p) where
        pub c_into_count : (less : ℕ) → less ≡ cond (eqb (plain v.tag) 0x08) (modifiers - 1) modifiers → Counted 0x08 s gap from room v.stop less
        c_into_count = count_on cell ce l ag (into_not l kind p x)

        pub c_into : (r : Bool) → (r ≡ true → Clean s kind v.stop 0 p v.stop (left - 1)) → not r ≡ false → Rest s within anchor room from gap end left v.stop cell
        unfolding Rest Clean goes or_then
        c_into r re rx class own c k =
            let f = re (is_so r rx) class (at + gap) c (known_below s class anchor room end v.stop k) in
            sym (on cell ce l ag (into_not l kind p x) class c k ∙ simp (x, f)) ∙ inv class own c k

pub ruleset clean_laws = (c_floor, c_start, c_done, t_less, t_within, c_over, c_over_count, counted_none)
