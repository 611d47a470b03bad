-- What an accepted page holds: the sizes of its names, its units and their places.
-- Assumes nothing.
use mathlib.Core.Path.{◌≡◌, refl, sym, ◌∙◌}
use mathlib.Core.Bool.{Bool, true, false, cond, true≢false, false≢true}
use mathlib.Core.List.{List}
use Prim.Native.Nat.{ℕ, ◌+◌, ◌-◌, ◌/◌, ◌%◌, ◌≤◌, ◌<◌}
use native.Mathlib.Nat.{add-zero}
use native.Mathlib.Omega.{arith}
use lib.ListN.{length}
use lib.Dec.{ltb, leb, eqb}
use borrow.Author.Tests.{eqb-true, ltb-false, leb-true, eq-eqb, le-leb}
use Rattle.rules.specs.Bytes.{part, among}
use Rattle.rules.specs.Tlv.{head_at}
use Rattle.rules.specs.Tlvs.{Tlvs, done, past, tlv, tlvs, plain, count_in, count}
use Rattle.rules.specs.Grammar.{grammar, cell_in, cell_of, gap_of, asks, needs_in, need_of, met_in, met, lacks, whole_kind, page_kind, unit_kind}
use Rattle.rules.specs.Shape.{shapes, number_in, shape_of, fixed_of, follows_of, kind_of}
use Rattle.rules.specs.Page.{content_at, row_of, page_head, page_row, part_in, page_part, is_held, bytes_of, identification, service, password, anchor_in, anchor, unit_in, unit_at, unit_count, unit_row, is_code, entry_in, entry_of, is_place_in, is_place, code_in, code_at}
use Rattle.rules.specs.Reference.{mark}
use Rattle.rules.specs.Forms.{bad_anchor, is_marked, sizes, size_of, out_of_size, too_big}
use Rattle.rules.specs.Keep.{guard_by}
use Rattle.rules.specs.IsCard.{guard_fine}
use Rattle.rules.specs.Loader.{walk, after, class_fault, classes, or_rejected, judge_by, judge_head, judge}
use Rattle.rules.proofs.Built.{same_tlv}
use Rattle.rules.proofs.Choices.{both}
use Rattle.rules.proofs.Offsets.{tests}
use Rattle.rules.proofs.IsolationRows.{length_part, Row, tlv_in, row_of_lem}
use Rattle.rules.proofs.StaysCardWalk.{not_fine, then_fine, Walked, Sound, Proper, walked_row, sound_tlv, never_past}
use Rattle.rules.proofs.StaysCardTags.{every, tags_of, shaped_as, its_place, known_tag, enter, first_proper}
use Rattle.std.specs.Prelude.{Option, Some, None, Result, Ok}
use Rattle.rules.specs.declared.Tlv.{Tlv}
use Rattle.rules.specs.declared.Span.{Span}
use Rattle.rules.specs.declared.Rejection.{Rejection}
use Rattle.rules.specs.Built.{some_tlv, reject}

-- the whole page is one Page TLV, in which no class found a fault
record Whole (s : List ℕ) : Type 0 where
  tag : ℕ
  start : ℕ
  head : page_head s ≡ some_tlv tag start (length s)
  walked : Walked s 8 whole_kind 0 0 (length s)

not_accepted : (class at : ℕ) → reject class at ≡ Ok tt → ⊥
not_accepted class at e = let z : ◌≡◌ {A = ℕ} 0 1 = cc in omega arith

or_accepted : (class : ℕ) (rest : Result (Unit {0}) Rejection) (f : Option ℕ) → or_rejected class rest f ≡ Ok tt → (f ≡ None) × (rest ≡ Ok tt)
unfolding or_rejected
or_accepted class rest None e = (refl, e)
or_accepted class rest (Some p) e = absurd (not_accepted class p e)

module _ (s : List ℕ) where
  class_fine : (class stop : ℕ) → class_fault s class stop ≡ None → (walk 8 s class whole_kind 0 0 stop ≡ None) × (after s class stop ≡ None)
  unfolding class_fault
  class_fine class stop e = then_fine (walk 8 s class whole_kind 0 0 stop) (after s class stop) e

  nothing_after : (stop : ℕ) → after s 2 stop ≡ None → length s ≤ stop
  unfolding after
  nothing_after stop e = both (ltb stop (length s)) (λ t. absurd (not_fine stop (rw t at e))) (λ t. omega tests)

  by_classes : (tag start stop : ℕ) → page_head s ≡ some_tlv tag start stop → judge_by s classes stop ≡ Ok tt → Whole s
  unfolding judge_by classes page_head
  by_classes tag start stop h e =
      let j2 = or_accepted 2 _ (class_fault s 2 stop) e in
      let j3 = or_accepted 3 _ (class_fault s 3 stop) j2.1 in
      let j4 = or_accepted 4 _ (class_fault s 4 stop) j3.1 in
      let j5 = or_accepted 5 _ (class_fault s 5 stop) j4.1 in
      let j6 = or_accepted 6 _ (class_fault s 6 stop) j5.1 in
      let j7 = or_accepted 7 _ (class_fault s 7 stop) j6.1 in
      let i = tlv_in s 0 (length s) tag start stop h in
      let l = nothing_after stop (class_fine 2 stop j2.0).1 in
      let q : stop ≡ length s = omega arith in
      let w : Walked s 8 whole_kind 0 0 stop =
      record {
        shapes = (class_fine 2 stop j2.0).0;
        places = (class_fine 4 stop j4.0).0;
        anchors = (class_fine 5 stop j5.0).0;
        sizes = (class_fine 6 stop j6.0).0;
        forms = (class_fine 7 stop j7.0).0;
      } in
      record { tag = tag; start = start; head = rw q at h; walked = rw q at w }

  by_head : (h : Option Tlv) → page_head s ≡ h → judge_head s h ≡ Ok tt → Whole s
  unfolding judge_head
  by_head (Some h) q e = by_classes h.tag h.start h.stop q e
  by_head None q e = absurd (not_accepted 2 0 e)

  whole : judge s ≡ Ok tt → Whole s
  unfolding judge
  whole e =
      both (eqb (length s) 0) (λ t. absurd (not_accepted 1 0 (rw t at e)))
      (λ t. both (ltb 4096 (length s)) (λ u. absurd (not_accepted 1 0 (rw (t, u) at e))) (λ u. by_head (page_head s) refl (rw (t, u) at e)))

-- the row of the page, and that no class found a fault in it
pub record PageSound (s : List ℕ) : Type 0 where
  pub from : ℕ
  pub row : Row s (length s) from (page_row s)
  pub sound : Sound s 6 page_kind from 0 (page_row s)
  pub complete : lacks page_kind (length s) (page_row s) ≡ false

pub page_sound : (s : List ℕ) → judge s ≡ Ok tt → PageSound s
unfolding page_row row_of page_head gap_of every tags_of grammar shaped_as plain shape_of shapes number_in follows_of kind_of fixed_of among
page_sound s e =
    let w = whole s e in
    let r = walked_row s 7 whole_kind 0 0 (length s) w.walked in
    let i = first_proper s (length s) 7 whole_kind 0 0 0 w.tag w.start (length s) (tlvs 0 s 0 (length s)) (row_of_lem s (length s) 0) r.0 w.head in
    let k = known_tag s 7 whole_kind 0 0 w.tag 0 w.start (length s) i.0 (λ t. eqb (plain t) 1) refl in
    let p = enter s 7 whole_kind 0 0 w.tag 0 w.start (length s) i.0 refl 1 page_kind 0 refl k refl refl in
    let q = walked_row s 6 page_kind 0 (content_at s w.tag w.start (length s)) (length s) (rw (add-zero (content_at s w.tag w.start (length s))) at p) in
    record {
      from = content_at s w.tag w.start (length s);
      row = rw w.head (row_of_lem s (length s) (content_at s w.tag w.start (length s)));
      sound = rw w.head q.0;
      complete = rw w.head q.1;
    }

-- a part of a row is of its size, and an anchor has no '23'
abbrev pub PartFine : List ℕ → ℕ → Option Span → Type 0
PartFine s t (Some p) = (out_of_size (size_of t) (p.end - p.from) ≡ false) × (p.end ≤ length s) × (t ≡ 0x0B → is_marked (mark (part s p.from p.end)) ≡ false)
PartFine s t None = Unit {0}

module _ (s : List ℕ) where
  its_size : (left within from last tag at start stop : ℕ) → Proper s left within from last tag at start stop → out_of_size (size_of tag) (stop - start) ≡ false
  unfolding too_big
  its_size left within from last tag at start stop h =
      both (out_of_size (size_of tag) (stop - start)) (λ t. absurd (true≢false (rw t at h.sized))) (λ t. t)

  unmarked : (left within from last at start stop : ℕ) → Proper s left within from last 0x0B at start stop → is_marked (mark (part s start stop)) ≡ false
  unfolding bad_anchor
  unmarked left within from last at start stop h =
      both (is_marked (mark (part s start stop))) (λ t. absurd (true≢false (rw t at h.named))) (λ t. t)

  pub part_fine : (t end left within from last at : ℕ) (r : Tlvs) → end ≤ length s → Row s end at r → Sound s left within from last r → PartFine s t (part_in t r)
  unfolding part_in
  part_fine t end left within from last at (done p) l k h = tt
  part_fine t end left within from last at (past p) l k h = tt
  part_fine t end left within from last at (tlv tag p start stop rest) l k h =
      let i = sound_tlv s left within from last tag p start stop rest h in
      let j = tlv_in s at end tag start stop k.1 in
      both (eqb tag t)
      (λ q. rw q (
        rw (eqb-true tag t q) at (its_size left within from last tag p start stop i.0),
        omega arith,
        λ e. unmarked left within from last p start stop (rw (eqb-true tag t q ∙ e) at i.0),
      ))
      (λ q. rw q (part_fine t end left within from (cell_of within tag) stop rest l k.2 i.1))

  -- what must stand stands: an identification, and a unit
  has_name : (end left from last : ℕ) (r : Tlvs) → Sound s left page_kind from last r → met_in page_kind 17 end r ≡ true → is_held (part_in 0x02 r) ≡ true
  unfolding met_in part_in is_held every tags_of grammar cell_of cell_in among
  has_name end left from last (done p) h m = absurd (false≢true m)
  has_name end left from last (past p) h m = absurd (never_past s left page_kind from last p h)
  has_name end left from last (tlv tag at start stop rest) h m =
      let i = sound_tlv s left page_kind from last tag at start stop rest h in
      both (eqb tag 0x02)
      (λ q. rw q)
      (λ q. rw q
      (both (eqb (cell_of page_kind tag) 17)
      (λ u. absurd (true≢false (sym (rw u at (known_tag s left page_kind from last tag at start stop i.0 (λ t. cond (eqb (cell_of page_kind t) 17) (eqb t 0x02) true) refl)) ∙ q)))
      (λ u. has_name end left from (cell_of page_kind tag) rest i.1 (rw u at m))))

  pub count_more : (t n : ℕ) (r : Tlvs) → n ≤ count_in t n r
  unfolding count_in
  count_more t n (done p) = omega arith
  count_more t n (past p) = omega arith
  count_more t n (tlv tag at start stop rest) =
      both (eqb (plain tag) t) (λ q. rw q (let k = count_more t (n + 1) rest in omega arith)) (λ q. rw q (count_more t n rest))

  has_unit : (n end left from last : ℕ) (r : Tlvs) → Sound s left page_kind from last r → met_in page_kind 132 end r ≡ true → n < count_in 0x0A n r
  unfolding met_in count_in every tags_of grammar cell_of cell_in among plain
  has_unit n end left from last (done p) h m = absurd (false≢true m)
  has_unit n end left from last (past p) h m = absurd (never_past s left page_kind from last p h)
  has_unit n end left from last (tlv tag at start stop rest) h m =
      let i = sound_tlv s left page_kind from last tag at start stop rest h in
      both (eqb (plain tag) 0x0A)
      (λ q. rw q (let k = count_more 0x0A (n + 1) rest in omega arith))
      (λ q. rw q
      (both (eqb (cell_of page_kind tag) 132)
      (λ u. absurd (true≢false (sym (rw u at (known_tag s left page_kind from last tag at start stop i.0 (λ t. cond (eqb (cell_of page_kind t) 132) (eqb (plain t) 0x0A) true) refl)) ∙ q)))
      (λ u. has_unit n end left from (cell_of page_kind tag) rest i.1 (rw u at m))))

  met_both : (end : ℕ) (r : Tlvs) → lacks page_kind end r ≡ false → (met_in page_kind 17 end r ≡ true) × (met_in page_kind 132 end r ≡ true)
  unfolding lacks met need_of needs_in asks grammar
  met_both end r e =
      both (met_in page_kind 17 end r)
      (λ t. both (met_in page_kind 132 end r) (λ u. (t, u)) (λ u. absurd (true≢false (rw (t, u) at e))))
      (λ t. absurd (true≢false (rw t at e)))

-- a unit of the page: no class found a fault in its row
pub record UnitSound (s : List ℕ) (tag start stop : ℕ) : Type 0 where
  pub sound : Sound s 5 unit_kind (content_at s tag start stop) 0 (tlvs 0 s (content_at s tag start stop) stop)
  pub fits : stop ≤ length s

abbrev pub UnitFine : List ℕ → Option Tlv → Type 0
UnitFine s (Some h) = UnitSound s h.tag h.start h.stop
UnitFine s None = Unit {0}

module _ (s : List ℕ) where
  units_fine : (k end from last at : ℕ) (r : Tlvs) → end ≤ length s → Row s end at r → Sound s 6 page_kind from last r → UnitFine s (unit_in k r)
  unfolding unit_in gap_of every tags_of grammar shaped_as plain shape_of shapes number_in follows_of kind_of fixed_of among
  units_fine k end from last at (done p) l w h = tt
  units_fine k end from last at (past p) l w h = tt
  units_fine k end from last at (tlv tag p start stop rest) l w h =
      let i = sound_tlv s 6 page_kind from last tag p start stop rest h in
      let j = tlv_in s at end tag start stop w.1 in
      both (eqb (plain tag) 0x0A)
      (λ q. rw q
      (both (eqb k 0)
      (λ u. rw u (
      let e = enter s 6 page_kind from last tag p start stop i.0 refl 0x0A unit_kind 0 refl q refl refl in
      record {
        sound = (walked_row s 5 unit_kind p (content_at s tag start stop) stop (rw (add-zero (content_at s tag start stop)) at e)).0;
        fits = omega arith;
      }))
      (λ u. rw u (units_fine (k - 1) end from (cell_of page_kind tag) stop rest l w.2 i.1))))
      (λ q. rw q (units_fine k end from (cell_of page_kind tag) stop rest l w.2 i.1))

  -- the same by whether the first TLV of the row is a byte code
  entry_first :
      (b : Bool) (at : ℕ) (rest : Tlvs)
      → is_place_in (entry_in rest) rest ≡ true
      → cond b (cond (eqb (cond b at (entry_in rest)) at) true (is_place_in (cond b at (entry_in rest)) rest)) (is_place_in (cond b at (entry_in rest)) rest) ≡ true
  entry_first true at rest h = rw (eq-eqb at at refl) refl
  entry_first false at rest h = h

  -- the first byte code of a unit, or its end, is a place
  entry_place : (left from last : ℕ) (r : Tlvs) → Sound s left unit_kind from last r → is_place_in (entry_in r) r ≡ true
  unfolding is_place_in entry_in
  entry_place left from last (done p) h = eq-eqb p p refl
  entry_place left from last (past p) h = absurd (never_past s left unit_kind from last p h)
  entry_place left from last (tlv tag at start stop rest) h =
      entry_first (is_code tag) at rest (entry_place left from (cell_of unit_kind tag) rest (sound_tlv s left unit_kind from last tag at start stop rest h).1)

  -- behind a byte code stands another one, or the unit's end
  start_place : (end left from last at : ℕ) (r : Tlvs) → 51 ≤ last → Row s end at r → Sound s left unit_kind from last r → is_place_in at r ≡ true
  unfolding is_place_in every tags_of grammar cell_of cell_in among is_code plain
  start_place end left from last at (done p) l k h = rw k.0 (eq-eqb at at refl)
  start_place end left from last at (past p) l k h = absurd (never_past s left unit_kind from last p h)
  start_place end left from last at (tlv tag p start stop rest) l k h =
      let i = sound_tlv s left unit_kind from last tag p start stop rest h in
      let c : 51 ≤ cell_of unit_kind tag = let o = (its_place s left unit_kind from last tag p start stop i.0).ordered in omega arith in
      let f = known_tag s left unit_kind from last tag p start stop i.0 (λ t. cond (leb 51 (cell_of unit_kind t)) (is_code t) true) refl in
      let q : is_code tag ≡ true = rw (le-leb 51 (cell_of unit_kind tag) c) at f in
      rw (q, k.0, eq-eqb at at refl)

  in_rest : (b tag p start stop : ℕ) (rest : Tlvs) → is_place_in b rest ≡ true → is_place_in b (tlv tag p start stop rest) ≡ true
  unfolding is_place_in
  in_rest b tag p start stop rest e = both (is_code tag) (λ q. both (eqb b p) (λ u. rw (q, u)) (λ u. rw (q, u) e)) (λ q. rw q e)

  -- the byte code at a place
  code_proper : (end left from last at place t a b : ℕ) (r : Tlvs) → Row s end at r → Sound s left unit_kind from last r → is_place_in place r ≡ true → head_at s place end ≡ some_tlv t a b →
      (from' last' : ℕ) × Proper s left unit_kind from' last' t place a b
  unfolding is_place_in
  code_proper end left from last at place t a b (done p) k h e q =
      let i = tlv_in s place end t a b q in
      let z = eqb-true place p e in
      absurd (omega arith)
  code_proper end left from last at place t a b (past p) k h e q = absurd (never_past s left unit_kind from last p h)
  code_proper end left from last at place t a b (tlv tag p start stop rest) k h e q =
      let i = sound_tlv s left unit_kind from last tag p start stop rest h in
      let onward : is_place_in place rest ≡ true → (from' last' : ℕ) × Proper s left unit_kind from' last' t place a b =
      λ x. code_proper end left from (cell_of unit_kind tag) stop place t a b rest k.2 i.1 x q in
      both (is_code tag)
      (λ u. both (eqb place p)
      (λ v.
      let z = eqb-true place p v in
      let same : some_tlv tag start stop ≡ some_tlv t a b = cc in
      let y = same_tlv same in
      (from, last, rw (sym z, y.0, y.1, y.2) at i.0))
      (λ v. onward (rw (u, v) at e)))
      (λ u. onward (rw u at e))

  next_place : (end left from last at place t a b : ℕ) (r : Tlvs) → Row s end at r → Sound s left unit_kind from last r → is_place_in place r ≡ true → head_at s place end ≡ some_tlv t a b → is_place_in b r ≡ true
  unfolding is_place_in every tags_of grammar cell_of cell_in among is_code plain
  next_place end left from last at place t a b (done p) k h e q =
      let i = tlv_in s place end t a b q in
      let z = eqb-true place p e in
      absurd (omega arith)
  next_place end left from last at place t a b (past p) k h e q = absurd (never_past s left unit_kind from last p h)
  next_place end left from last at place t a b (tlv tag p start stop rest) k h e q =
      let i = sound_tlv s left unit_kind from last tag p start stop rest h in
      let onward : is_place_in place rest ≡ true → is_place_in b rest ≡ true = λ x. next_place end left from (cell_of unit_kind tag) stop place t a b rest k.2 i.1 x q in
      in_rest b tag p start stop rest
      (both (is_code tag)
      (λ u. both (eqb place p)
      (λ v.
      let z = eqb-true place p v in
      let same : some_tlv t a b ≡ some_tlv tag start stop = cc in
      let y = same_tlv same in
      let f = known_tag s left unit_kind from last tag p start stop i.0 (λ t. cond (is_code t) (leb 51 (cell_of unit_kind t)) true) refl in
      rw y.2 (start_place end left from (cell_of unit_kind tag) stop rest (leb-true 51 (cell_of unit_kind tag) (rw u at f)) k.2 i.1))
      (λ v. onward (rw (u, v) at e)))
      (λ u. onward (rw u at e)))

pub in_size : (limit size : ℕ) → eqb limit 0 ≡ false → out_of_size limit size ≡ false → (limit / 64 ≤ size) × (size ≤ limit % 64)
unfolding out_of_size
in_size limit size e h =
    both (ltb size (limit / 64)) (λ t. absurd (true≢false (rw (e, t) at h)))
    (λ t. (ltb-false size (limit / 64) t, ltb-false (limit % 64) size (rw (e, t) at h)))

-- what is known of an accepted page
pub record PageFine (s : List ℕ) : Type 0 where
  pub name : (1 ≤ length (identification s)) × (length (identification s) ≤ 32)
  pub served : length (service s) ≤ 16
  pub guarded : guard_fine (guard_by s (password s)) ≡ true
  pub units : 0 < unit_count s
  pub unit : (k : ℕ) → UnitFine s (unit_at s k)
  pub anchored : (k : ℕ) → PartFine s 0x0B (anchor s k)
  pub entry : (k : ℕ) → is_place s k (entry_of s k) ≡ true
  pub next : (k place tag start stop : ℕ) → is_place s k place ≡ true → code_at s k place ≡ some_tlv tag start stop → is_place s k stop ≡ true
  pub code : (k place tag start stop : ℕ) → is_place s k place ≡ true → code_at s k place ≡ some_tlv tag start stop →
      (from last : ℕ) × Proper s 5 unit_kind from last tag place start stop × (stop ≤ length s)

module _ (s : List ℕ) where
  name_size : (p : Option Span) → is_held p ≡ true → PartFine s 0x02 p → (1 ≤ length (bytes_of s p)) × (length (bytes_of s p) ≤ 32)
  unfolding is_held bytes_of size_of sizes number_in among
  name_size (Some p) e h = rw (length_part s p.from p.end h.1) (in_size 96 (p.end - p.from) refl h.0)
  name_size None e h = absurd (false≢true e)

  service_size : (p : Option Span) → PartFine s 0x06 p → length (bytes_of s p) ≤ 16
  unfolding bytes_of size_of sizes number_in among
  service_size (Some p) h = rw (length_part s p.from p.end h.1) (in_size 80 (p.end - p.from) refl h.0).1
  service_size None h = omega arith

  guard_size : (p : Option Span) → PartFine s 0x04 p → guard_fine (guard_by s p) ≡ true
  unfolding guard_by guard_fine size_of sizes number_in among
  guard_size (Some p) h = rw (length_part s p.from p.end h.1) (le-leb (p.end - p.from) 16 (in_size 16 (p.end - p.from) refl h.0).1)
  guard_size None h = refl

  unit_anchor : (h : Option Tlv) → UnitFine s h → PartFine s 0x0B (anchor_in s h)
  unfolding anchor_in row_of part_in
  unit_anchor (Some h) u =
      part_fine s 0x0B h.stop 5 unit_kind (content_at s h.tag h.start h.stop) 0 (content_at s h.tag h.start h.stop) (tlvs 0 s (content_at s h.tag h.start h.stop) h.stop)
      u.fits (row_of_lem s h.stop (content_at s h.tag h.start h.stop)) u.sound
  unit_anchor None u = tt

  unit_entry : (h : Option Tlv) → UnitFine s h → is_place_in (entry_in (row_of s h)) (row_of s h) ≡ true
  unfolding row_of entry_in is_place_in
  unit_entry (Some h) u = entry_place s 5 (content_at s h.tag h.start h.stop) 0 (tlvs 0 s (content_at s h.tag h.start h.stop) h.stop) u.sound
  unit_entry None u = refl

  unit_next : (h : Option Tlv) → UnitFine s h → (place t a b : ℕ) → is_place_in place (row_of s h) ≡ true → code_in s place h ≡ some_tlv t a b → is_place_in b (row_of s h) ≡ true
  unfolding row_of code_in
  unit_next (Some h) u place t a b e q =
      next_place s h.stop 5 (content_at s h.tag h.start h.stop) 0 (content_at s h.tag h.start h.stop) place t a b (tlvs 0 s (content_at s h.tag h.start h.stop) h.stop)
      (row_of_lem s h.stop (content_at s h.tag h.start h.stop)) u.sound e q
  unit_next None u place t a b e q = let z : ◌≡◌ {A = ℕ} 0 1 = cc in absurd (omega arith)

  unit_code : (h : Option Tlv) → UnitFine s h → (place t a b : ℕ) → is_place_in place (row_of s h) ≡ true → code_in s place h ≡ some_tlv t a b →
      (from last : ℕ) × Proper s 5 unit_kind from last t place a b × (b ≤ length s)
  unfolding row_of code_in
  unit_code (Some h) u place t a b e q =
      let p = code_proper s h.stop 5 (content_at s h.tag h.start h.stop) 0 (content_at s h.tag h.start h.stop) place t a b (tlvs 0 s (content_at s h.tag h.start h.stop) h.stop)
      (row_of_lem s h.stop (content_at s h.tag h.start h.stop)) u.sound e q in
      let i = tlv_in s place h.stop t a b q in
      let l = u.fits in
      (p.0, p.1, p.2, omega arith)
  unit_code None u place t a b e q = let z : ◌≡◌ {A = ℕ} 0 1 = cc in absurd (omega arith)

  pub page_fine : judge s ≡ Ok tt → PageFine s
  unfolding identification service password page_part unit_count count unit_at anchor is_place entry_of unit_row code_at
  page_fine e =
      let w = page_sound s e in
      let m = met_both s (length s) (page_row s) w.complete in
      let p : (t : ℕ) → PartFine s t (part_in t (page_row s)) = λ t. part_fine s t (length s) 6 page_kind w.from 0 w.from (page_row s) (omega arith) w.row w.sound in
      let u : (k : ℕ) → UnitFine s (unit_in k (page_row s)) = λ k. units_fine s k (length s) w.from 0 w.from (page_row s) (omega arith) w.row w.sound in
      record {
        name = name_size (part_in 0x02 (page_row s)) (has_name s (length s) 6 w.from 0 (page_row s) w.sound m.0) (p 0x02);
        served = service_size (part_in 0x06 (page_row s)) (p 0x06);
        guarded = guard_size (part_in 0x04 (page_row s)) (p 0x04);
        units = has_unit s 0 (length s) 6 w.from 0 (page_row s) w.sound m.1;
        unit = u;
        anchored = λ k. unit_anchor (unit_in k (page_row s)) (u k);
        entry = λ k. unit_entry (unit_in k (page_row s)) (u k);
        next = λ k place tag start stop. unit_next (unit_in k (page_row s)) (u k) place tag start stop;
        code = λ k place tag start stop. unit_code (unit_in k (page_row s)) (u k) place tag start stop;
      }
