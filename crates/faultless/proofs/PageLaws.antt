-- Where `anchor_clean`, `part_clean`, `row_clean` and `page_clean` find nothing, no class does, in the shape of their needs.
-- Assumes nothing.
use Prim.Native.Nat.{ℕ, ◌+◌, ◌-◌, ◌≤◌, ◌<◌, ◌%◌}
use mathlib.Core.Bool.{Bool, true, false, cond, not}
use mathlib.Core.List.{List}
use mathlib.Core.Path.{◌≡◌, refl, sym, subst, ap, ◌∙◌}
use native.Mathlib.Omega.{arith}
use lib.ListN.{length, get_or, take, drop, length-replicate}
use lib.Dec.{eqb}
use borrow.Author.Tests.{le-ltb, lt-leb, eq-eqb, eqb-true, eqb-false}
use Rattle.rules.specs.declared.Look.{Look}
use Rattle.rules.specs.declared.Look.TheVariants.{Fault, Over, Into}
use Rattle.rules.specs.Bytes.{part}
use Rattle.rules.specs.Tlv.{head_at}
use Rattle.rules.specs.Tlvs.{tlvs, plain, count}
use Rattle.rules.specs.Grammar.{cell_of, gap_of, lacks, page_kind, whole_kind}
use Rattle.rules.specs.Page.{content_at, page_head, page_row}
use Rattle.rules.specs.Reference.{mark}
use Rattle.rules.specs.Forms.{is_marked, bad_anchor, crowded}
use Rattle.rules.specs.Loader.{look, or_then, goes, row_fault, walk, after, class_fault}
use Rattle.leaf.proofs.Cases.{both}
use Rattle.tlv.proofs.Bounds.{head_tlv}
use Rattle.tlv.proofs.Rows.{row_done, row_tlv}
use Rattle.rules.specs.declared.Span.{Span}
use Rattle.page.specs.Span.{span_of}
use Rattle.page.proofs.Spans.{span_row}
use Rattle.forms.proofs.SoundLaws.{is_no}
use Rattle.forms.proofs.NameLaws.{anchor_none, crowded_unit, crowded_none, crowded_page}
use Rattle.faultless.specs.Clean.{Admitted, Shaped, Agreed, anchor_slot, UntakenHead, Untaken, FreshHead, Fresh, FreshIf, Known, Clean, PartClean, RowClean, PageClean}
use Rattle.classes.proofs.WalkLaws.{w_start}
use Rattle.classes.proofs.StructureLaws.{walk_fine}
use Rattle.faultless.proofs.CleanLaws.{is_so, lack_none, over_not, into_not, goes_same}
use Rattle.faultless.proofs.SlotLaws.{Unseen, unseen_start, unseen_here}
use Rattle.faultless.proofs.Front.{Counted, counted_none, row_counted_here, row_counted_on}
use Rattle.std.specs.Prelude.{Option, None, Some}
use Rattle.rules.specs.declared.Tlv.{Tlv}
use Rattle.rules.specs.Built.{some_tlv}

module _ (s : List ℕ) (seen from end : ℕ) (h : Option Tlv) (is : h ≡ head_at s from end) where
  pub fresh_past : h ≡ None → true ≡ true → FreshIf s seen from end
  unfolding FreshIf Fresh
  fresh_past e x u = subst (FreshHead s from) (sym (sym is ∙ e)) tt

  module _ (v : Tlv) (e : h ≡ Some v) where
    pub fresh_other : (v.tag ≡ 0x0B → ⊥) → true ≡ true → FreshIf s seen from end
    unfolding FreshIf Fresh
    fresh_other n x u = subst (FreshHead s from) (sym (sym is ∙ e)) (λ y. absurd (n y))

    pub fresh_unseen : seen ≡ 0 → (m : Option ℕ) → m ≡ mark (take (v.stop - v.start) (drop v.start s)) → m ≡ None → true ≡ true → FreshIf s seen from end
    unfolding FreshIf Fresh Untaken bad_anchor is_marked part
    fresh_unseen z m f c x u =
        subst (FreshHead s from) (sym (sym is ∙ e)) (λ y. let n = subst (UntakenHead s from) (sym is ∙ e) (u z) y in simp (eq-eqb v.tag 0x0B y, sym f ∙ c, n))

    pub fresh_anchor : (r : Bool) → r ≡ bad_anchor s from v.tag v.start v.stop → not r ≡ true → FreshIf s seen from end
    unfolding FreshIf Fresh
    fresh_anchor r re x u = subst (FreshHead s from) (sym (sym is ∙ e)) (λ y. sym re ∙ is_no r x)

pub ruleset fresh_laws = (fresh_past, fresh_other, fresh_unseen, fresh_anchor)

module _ (s : List ℕ) (room seen tag start kind from stop : ℕ) where
  pub part_unit : tag % 128 ≡ 0x0A → (p : ℕ) → p ≡ content_at s tag start stop → from ≡ p → (a : Bool) → (a ≡ true → FreshIf s seen from stop) → a ≡ true
      → (r : Bool) → (r ≡ true → Clean s kind from room from stop 6) → r ≡ true → PartClean s room seen tag start kind from stop
  unfolding FreshIf PartClean Clean Known
  part_unit t p pe q a ae ax r re rx class own c k u = re rx class own c (λ x h. ae ax (λ z. subst (λ n. Untaken s n stop) (sym (q ∙ pe)) (u t z)), λ x. k)

  pub part_other : (r : Bool) → (r ≡ true → Clean s kind stop 0 from stop 6) → r ≡ true → PartClean s room seen tag start kind from stop
  unfolding PartClean Clean Known
  part_other r re rx class own c k u = re rx class own c (λ x h. let no : ⊥ = omega arith in absurd no, λ x. omega arith)

pub ruleset part_laws = (part_unit, part_other)

-- what is left of the page's parts comes to what they come to, for each class
unfoldable pub Rest : List ℕ → ℕ → ℕ → ℕ → ℕ → Type 0
Rest s from end at last =
    tlvs 0 s from end ≡ page_row s → (class own : ℕ) → 3 ≤ class
    → row_fault s class (λ k o p e. walk 6 s class k o p e) page_kind from last (tlvs 0 s at end) ≡ walk 7 s class page_kind own from end

module _ (s : List ℕ) (from end : ℕ) where
  pub r_start : (b : Bool) → b ≡ lacks page_kind end (tlvs (gap_of page_kind) s from end) → b ≡ false → Rest s from end from 0
  unfolding Rest gap_of
  r_start b e x w class own c = w_start s class page_kind own from end 7 (λ z. omega arith) false (lack_none s class page_kind from end b e x) refl 0 refl

  module _ (at last : ℕ) (inv : Rest s from end at last) where
    pub r_done : end ≤ at → true ≡ true → RowClean s from end
    unfolding Rest RowClean row_fault
    r_done h x w class own c = sym (inv w class own c) ∙ simp (row_done s at end h)

    module _ (go : at < end) (h : Option Tlv) (is : h ≡ head_at s at end) (v : Tlv) (e : h ≡ Some v) where
      module _ (units modifiers : ℕ) (u : Counted 0x0A s 0 from 64 at units) (m : Counted 0x08 s 0 from 32 at modifiers) where
        module _ (cell : ℕ) (ce : cell ≡ cell_of page_kind v.tag) (l : Look) (ag : (l ≡ Fault → ⊥) → Agreed s page_kind end 0 units modifiers last cell at v.tag v.start v.stop 6 l) (n : l ≡ Fault → ⊥) where
          admitted : Admitted end 0 units modifiers at v.tag
          unfolding Agreed
          admitted = (ag n).0

          anchored : bad_anchor s at v.tag v.start v.stop ≡ false
          unfolding Admitted
          anchored = sym (anchor_none s at v.tag v.start v.stop (λ y. let p = admitted.0 y in omega arith))

          uncrowded : crowded s page_kind from at v.tag ≡ false
          unfolding Admitted Counted
          uncrowded =
              both (eqb (v.tag % 128) 0x0A)
              (λ x. let y = eqb-true (v.tag % 128) 0x0A x in
              let z = admitted.1 y in
              let i = u.0 in
              sym (crowded_unit s page_kind from at v.tag y (64 - units) (sym (row_counted_here 0x0A s from 64 at units u))) ∙ lt-leb 64 (64 - units) (omega arith))
              (λ x. both (eqb (v.tag % 128) 0x08)
              (λ y. let z = admitted.2 (eqb-true (v.tag % 128) 0x08 y) in
              let i = m.0 in
              sym (crowded_page s page_kind from at v.tag (eqb-false (v.tag % 128) 0x0A x) (eqb-true (v.tag % 128) 0x08 y) (32 - modifiers) (sym (row_counted_here 0x08 s from 32 at modifiers m)) (λ w. omega arith))
              ∙ lt-leb 32 (32 - modifiers) (omega arith))
              (λ y. sym (crowded_none s page_kind from at v.tag (eqb-false (v.tag % 128) 0x0A x) (eqb-false (v.tag % 128) 0x08 y))))

          same : (class : ℕ) → 4 ≤ class → look s class page_kind last cell from at v.tag v.start v.stop ≡ l
          unfolding Agreed
          same class c = (ag n).1 class from c (λ q. anchored) (λ q. uncrowded)

          shaped : Shaped s page_kind at v.tag v.start v.stop 6 l
          unfolding Agreed
          shaped = (ag n).2

          here : (class : ℕ) → row_fault s class (λ k o p e. walk 6 s class k o p e) page_kind from last (tlvs 0 s at end)
              ≡ goes (λ k o p e. walk 6 s class k o p e) at v.stop (row_fault s class (λ k o p e. walk 6 s class k o p e) page_kind from cell (tlvs 0 s v.stop end))
              (look s class page_kind last cell from at v.tag v.start v.stop)
          unfolding row_fault
          here class = simp (row_tlv s at end go (sym is ∙ e), sym ce)

          on : (class : ℕ) → 3 ≤ class
              → row_fault s class (λ k o p e. walk 6 s class k o p e) page_kind from last (tlvs 0 s at end)
              ≡ goes (λ k o p e. walk 6 s class k o p e) at v.stop (row_fault s class (λ k o p e. walk 6 s class k o p e) page_kind from cell (tlvs 0 s v.stop end)) l
          on class c = here class ∙ goes_same s page_kind last cell from at v.tag v.start v.stop 6 l class c shaped (same class) _

          units_on : (less : ℕ) → less ≡ cond (eqb (plain v.tag) 0x0A) (units - 1) units → Counted 0x0A s 0 from 64 v.stop less
          unfolding Admitted
          units_on less f = row_counted_on 0x0A s from 64 at units u end (sym is ∙ e) (λ q. (admitted.1 q).1) less f

          modifiers_on : (less : ℕ) → less ≡ cond (eqb (plain v.tag) 0x08) (modifiers - 1) modifiers → Counted 0x08 s 0 from 32 v.stop less
          unfolding Admitted
          modifiers_on less f = row_counted_on 0x08 s from 32 at modifiers m end (sym is ∙ e) (λ q. (admitted.2 q).1) less f

        module _ (cell : ℕ) (ce : cell ≡ cell_of page_kind v.tag) (l : Look) (ag : (l ≡ Fault → ⊥) → Agreed s page_kind end 0 units modifiers last cell at v.tag v.start v.stop 6 l) where
          module _ (x : l ≡ Over) where
            pub r_over : Rest s from end v.stop cell
            unfolding Rest goes
            r_over w class own c = sym (on cell ce l ag (over_not l x) class c ∙ simp x) ∙ inv w class own c

            pub r_over_units : (less : ℕ) → less ≡ cond (eqb (plain v.tag) 0x0A) (units - 1) units → Counted 0x0A s 0 from 64 v.stop less
            r_over_units = units_on cell ce l ag (over_not l x)

            pub r_over_modifiers : (less : ℕ) → less ≡ cond (eqb (plain v.tag) 0x08) (modifiers - 1) modifiers → Counted 0x08 s 0 from 32 v.stop less
            r_over_modifiers = modifiers_on cell ce l ag (over_not l x)

          module _ (kind p : ℕ) (x : l ≡ Into kind p) where
            pub r_into_units : (less : ℕ) → less ≡ cond (eqb (plain v.tag) 0x0A) (units - 1) units → Counted 0x0A s 0 from 64 v.stop less
            r_into_units = units_on cell ce l ag (into_not l kind p x)

            pub r_into_modifiers : (less : ℕ) → less ≡ cond (eqb (plain v.tag) 0x08) (modifiers - 1) modifiers → Counted 0x08 s 0 from 32 v.stop less
            r_into_modifiers = modifiers_on cell ce l ag (into_not l kind p x)

            pub r_into : (room own : ℕ) → own ≡ count 0x08 (tlvs 0 s from end) → room + own ≤ 32 → (slots : List ℕ) → Unseen s from end at slots → (slot : ℕ) → slot ≡ anchor_slot s v.tag v.start v.stop
                → (r : Bool) → (r ≡ true → PartClean s room (get_or slots slot 0) v.tag v.start kind p v.stop) → not r ≡ false → Rest s from end v.stop cell
            unfolding Rest PartClean goes or_then
            r_into room own oe ol slots un slot se r re rx w class o c =
                let k : own ≡ count 0x08 (page_row s) = oe ∙ ap (count 0x08) w in
                let f = re (is_so r rx) class at c (omega arith) (λ y z. unseen_here s from end at slots un go h is v e slot se w y z) in
                sym (on cell ce l ag (into_not l kind p x) class c ∙ simp (x, f)) ∙ inv w class o c

pub ruleset page_row_laws = (r_start, r_done, counted_none, unseen_start, length-replicate)

module _ (s : List ℕ) (stop : ℕ) (all : length s ≤ stop) (b : Bool) (be : b ≡ lacks whole_kind stop (tlvs (gap_of whole_kind) s 0 stop)) (bx : b ≡ false)
    (h : Option Tlv) (is : h ≡ head_at s 0 stop) (v : Tlv) (e : h ≡ Some v) (y : v.stop ≡ stop) (cell : ℕ) (ce : cell ≡ cell_of whole_kind v.tag)
    (l : Look) (told : (l ≡ Fault → ⊥) → Agreed s whole_kind stop 0 0 0 0 cell 0 v.tag v.start v.stop 7 l) (kind p : ℕ) (x : l ≡ Into kind p) where
  ag : (l ≡ Fault → ⊥) → Agreed s whole_kind stop 0 0 0 0 cell 0 v.tag v.start stop 7 l
  ag n = rw y at (told n)

  admitted_whole : Admitted stop 0 0 0 0 v.tag
  unfolding Agreed
  admitted_whole = (ag (into_not l kind p x)).0

  same_whole : (class : ℕ) → 4 ≤ class → look s class whole_kind 0 cell 0 0 v.tag v.start stop ≡ l
  unfolding Agreed Admitted
  same_whole class c =
      let i = head_tlv s 0 stop (sym is ∙ e) in
      (ag (into_not l kind p x)).1 class 0 c
      (λ q. sym (anchor_none s 0 v.tag v.start stop (λ z. let w = admitted_whole.0 z in omega arith)))
      (λ q. sym (crowded_none s whole_kind 0 0 v.tag (λ z. let w = admitted_whole.1 z in omega arith) (λ z. let w = admitted_whole.2 z in omega arith)))

  shaped_whole : Shaped s whole_kind 0 v.tag v.start stop 7 l
  unfolding Agreed
  shaped_whole = (ag (into_not l kind p x)).2

  here_whole : (class : ℕ) → row_fault s class (λ k o p e. walk 7 s class k o p e) whole_kind 0 0 (tlvs 0 s 0 stop)
      ≡ goes (λ k o p e. walk 7 s class k o p e) 0 stop None (look s class whole_kind 0 cell 0 0 v.tag v.start stop)
  unfolding row_fault
  here_whole class =
      let i = head_tlv s 0 stop (sym is ∙ e) in simp (row_tlv s 0 stop (omega arith) (sym is ∙ e ∙ ap (some_tlv v.tag v.start) y), row_done s stop stop (omega arith), sym ce)

  module _ (k : kind ≡ page_kind) (row : Span) (re : row ≡ span_of s (page_head s)) (pe : p ≡ row.from) (se : stop ≡ row.end) where
    whole_row : tlvs 0 s p stop ≡ page_row s
    unfolding page_row
    whole_row = ap (λ n. tlvs 0 s n stop) pe ∙ ap (λ n. tlvs 0 s row.from n) se ∙ rw re (span_row s (page_head s))

    module _ (r : Bool) (rc : r ≡ true → RowClean s p stop) (rx : r ≡ true) where
      walk_whole : (class : ℕ) → 3 ≤ class → walk 8 s class whole_kind 0 0 stop ≡ None
      unfolding RowClean gap_of goes or_then
      walk_whole class c =
          let f = rc rx whole_row class 0 c in
          sym (w_start s class whole_kind 0 0 stop 8 (λ z. omega arith) false (lack_none s class whole_kind 0 stop b be bx) refl 0 refl)
          ∙ here_whole class
          ∙ goes_same s whole_kind 0 cell 0 0 v.tag v.start stop 7 l class c shaped_whole (same_whole class) None
          ∙ simp (x, k, f)

      pub whole_clean : PageClean s stop
      unfolding PageClean class_fault or_then after
      whole_clean class c =
          both (eqb class 2)
          (λ z. let q = eqb-true class 2 z in rw q (simp (walk_fine 8 s whole_kind 0 0 stop (walk_whole 3 (omega arith)), le-ltb stop (length s) all)))
          (λ z. let q = eqb-false class 2 z in simp (walk_whole class (omega arith), z))
