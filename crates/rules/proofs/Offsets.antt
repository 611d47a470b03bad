-- The loader answers a class from 1 to 7, and an offset that is at most the page's length. Assumes nothing.
use Prim.Native.Nat.{ℕ, zero, suc, ◌+◌, ◌-◌, ◌≤◌, ◌<◌}
use mathlib.Core.Path.{◌≡◌, refl}
use mathlib.Core.Bool.{true}
use mathlib.Core.List.{List, [], ◌∷◌}
use native.Mathlib.Omega.{arith}
use borrow.Author.Tests.{ltb-true, ltb-false, leb-true, leb-false, eqb-true}
use lib.Dec.{ltb, leb, eqb}
use lib.ListN.{length, get_or}
use Rattle.rules.specs.Bytes.{among}
use Rattle.rules.specs.Tlv.{length_at, head_of, head_at}
use Rattle.rules.specs.Tlvs.{Tlvs, done, past, tlv, row, tlvs_up_to, tlvs}
use Rattle.rules.specs.Pieces.{pieces, filled}
use Rattle.rules.specs.Grammar.{cell_of, gap_of, whole_kind, command_kind}
use Rattle.rules.specs.Shape.{raw, numbered, length_value, substitution, kind_of, follows_of, kind_at, shape_of, attributes_in, attributes_end, contents, value_at, after_attributes, indicator_shape, body_of}
use Rattle.rules.specs.Page.{page_head}
use Rattle.rules.specs.Forms.{faulty, beyond_at}
use Rattle.rules.specs.Loader.{shape_look, judged_look, look, or_then, floor, lacking, goes, row_fault, walk, after, class_fault, classes, or_rejected, judge_by, judge_head, judge}
use Rattle.rules.specs.declared.Body.{Body}
use Rattle.rules.specs.declared.Body.TheVariants.{Inner, Leaf, Short}
use Rattle.rules.specs.declared.Look.{Look}
use Rattle.rules.specs.declared.Look.TheVariants.{Fault, Over, Into}
use Rattle.rules.proofs.Choices.{both, either}
use Rattle.std.specs.Prelude.{Option, Some, None, Result, Ok, Err}
use Rattle.rules.specs.declared.Tlv.{Tlv}
use Rattle.rules.specs.declared.Rejection.{Rejection}
use Rattle.rules.specs.Built.{some_tlv, reject}

pub ruleset tests = (ltb-true, ltb-false, leb-true, leb-false, eqb-true, arith)

-- a length that was read lies before the end
abbrev LengthIn : ℕ → ℕ → Option (ℕ × ℕ) → Type 0
LengthIn at end (Some p) = (at < p.1) × (p.1 ≤ end)
LengthIn at end None = Prim.Unit {0}

pub length_in : (s : List ℕ) (at end : ℕ) → LengthIn at end (length_at s at end)
unfolding length_at
length_in s at end =
    both (leb end at) (λ t. simp t tt) (λ t.
    both (ltb (get_or s at 0) 0x80) (λ t2. simp (t, t2) (omega tests)) (λ t2.
    both (eqb (get_or s at 0) 0x81) (λ t3. both (ltb (end - at) 2) (λ t4. simp (t, t2, t3, t4) tt) (λ t4. simp (t, t2, t3, t4) (omega tests))) (λ t3.
    both (eqb (get_or s at 0) 0x82) (λ t4. both (ltb (end - at) 3) (λ t5. simp (t, t2, t3, t4, t5) tt) (λ t5. simp (t, t2, t3, t4, t5) (omega tests)))
    (λ t4. simp (t, t2, t3, t4) tt))))

-- a TLV that was read lies before the end
abbrev pub HeadIn : ℕ → ℕ → Option Tlv → Type 0
HeadIn at end (Some h) = (at < h.start) × (h.start ≤ h.stop) × (h.stop ≤ end)
HeadIn at end None = Prim.Unit {0}

head_of_in : (tag at end : ℕ) (l : Option (ℕ × ℕ)) → LengthIn (at + 1) end l → HeadIn at end (head_of tag end l)
unfolding head_of
head_of_in tag at end (Some p) h = either (HeadIn at end) (ltb (end - p.1) p.0) {a = None} {b = some_tlv tag p.1 (p.1 + p.0)} (λ t. tt) (λ t. omega tests)
head_of_in tag at end None h = tt

pub head_in : (s : List ℕ) (at end : ℕ) → HeadIn at end (head_at s at end)
unfolding head_at
head_in s at end = both (leb end at) (λ t. simp t tt) (λ t. simp t (head_of_in _ at end (length_at s (at + 1) end) (length_in s (at + 1) end)))

-- every place of a row lies from its start up to its end
abbrev pub RowIn : ℕ → ℕ → Tlvs → Type 0
RowIn from end (done p) = p ≤ end
RowIn from end (past p) = (from ≤ p) × (p ≤ end)
RowIn from end (tlv tag at start stop rest) = (from ≤ at) × (at < start) × (start ≤ stop) × (stop ≤ end) × RowIn stop end rest

row_head : (k : ℕ → Tlvs) (from at end : ℕ) → from ≤ at → at ≤ end → ((p : ℕ) → p ≤ end → RowIn p end (k p)) → (h : Option Tlv) → HeadIn at end h → RowIn from end (row k at h)
unfolding row
row_head k from at end f l r (Some q) h = (f, h.0, h.1, h.2, r q.stop h.2)
row_head k from at end f l r None h = (f, l)

upto_in : (n gap : ℕ) (s : List ℕ) (from end : ℕ) → from ≤ end → RowIn from end (tlvs_up_to n gap s from end)
unfolding tlvs_up_to
upto_in zero gap s from end l = l
upto_in (suc n) gap s from end l =
    both (leb (end - from) gap) (λ t. simp t l)
    (λ t. simp t (row_head _ from (from + gap) end (omega arith) (omega tests) (λ p q. upto_in n gap s p end q) (head_at s (from + gap) end) (head_in s (from + gap) end)))

pub row_in : (gap : ℕ) (s : List ℕ) (from end : ℕ) → from ≤ end → RowIn from end (tlvs gap s from end)
unfolding tlvs
row_in gap s from end l = upto_in (end - from) gap s from end l

-- what a value holds begins inside it
abbrev pub BodyIn : ℕ → ℕ → Body → Type 0
BodyIn start stop (Inner kind p) = (start ≤ p) × (p ≤ stop)
BodyIn start stop Leaf = Prim.Unit {0}
BodyIn start stop Short = Prim.Unit {0}

contents_in : (s : List ℕ) (kind follows start at from stop : ℕ) → start ≤ at → at ≤ from → from ≤ stop → BodyIn start stop (contents s kind follows at from stop)
unfolding contents
contents_in s kind follows start at from stop a b c =
    either (BodyIn start stop) (eqb follows raw) (λ _. tt)
    (λ _. either (BodyIn start stop) (eqb follows numbered) {a = Inner kind at} (λ _. omega arith)
    (λ _. either (BodyIn start stop) (ltb follows length_value) {a = Inner (kind_at s kind at stop) from} (λ _. omega arith)
    (λ _. either (BodyIn start stop) (filled (pieces (eqb follows substitution) s from stop)) {a = Leaf} {b = Short} (λ _. tt) (λ _. tt))))

value_in : (s : List ℕ) (shape fixed start at stop : ℕ) → start ≤ at → at ≤ stop → BodyIn start stop (value_at s shape fixed at stop)
unfolding value_at
value_in s shape fixed start at stop a b =
    both (ltb (stop - at) fixed) (λ t. simp t tt) (λ t. simp t (contents_in s (kind_of shape) (follows_of shape) start at (at + fixed) stop a (omega arith) (omega tests)))

abbrev pub SpotIn : ℕ → ℕ → Option ℕ → Type 0
SpotIn start stop (Some p) = (start ≤ p) × (p ≤ stop)
SpotIn start stop None = Prim.Unit {0}

attributes_in_lem : (n : ℕ) (s : List ℕ) (start at stop : ℕ) → start ≤ at → at + n ≤ stop → SpotIn start stop (attributes_in n s at)
unfolding attributes_in
attributes_in_lem zero s start at stop a b = tt
attributes_in_lem (suc n) s start at stop a b =
    either (SpotIn start stop) (ltb (get_or s at 0) 0x80) {a = Some (at + 1)} (λ _. omega arith) (λ _. attributes_in_lem n s start (at + 1) stop (omega arith) (omega arith))

pub attributes_end_in : (s : List ℕ) (tag start stop : ℕ) → start ≤ stop → SpotIn start stop (attributes_end s tag start stop)
unfolding attributes_end
attributes_end_in s tag start stop l =
    either (SpotIn start stop) (ltb tag 0x80) {a = Some start} (λ _. omega arith) (λ _. attributes_in_lem (stop - start) s start start stop (omega arith) (omega arith))

after_in : (s : List ℕ) (shape a start stop : ℕ) (p : Option ℕ) → SpotIn start stop p → BodyIn start stop (after_attributes s shape a stop p)
unfolding after_attributes
after_in s shape a start stop (Some p) h = value_in s shape _ start p stop h.0 h.1
after_in s shape a start stop None h = tt

pub body_in : (s : List ℕ) (within tag start stop : ℕ) → start ≤ stop → BodyIn start stop (body_of s within tag start stop)
unfolding body_of
body_in s within tag start stop l =
    either (BodyIn start stop) (eqb within command_kind)
    (λ _. either (BodyIn start stop) (eqb tag 0) (λ _. value_in s indicator_shape 1 start start stop (omega arith) l) (λ _. tt))
    (λ _. either (BodyIn start stop) (eqb (shape_of tag) 0) (λ _. tt) (λ _. after_in s _ _ start stop (attributes_end s tag start stop) (attributes_end_in s tag start stop l)))

abbrev LookIn : ℕ → ℕ → Look → Type 0
LookIn start stop Fault = Prim.Unit {0}
LookIn start stop Over = Prim.Unit {0}
LookIn start stop (Into kind p) = (start ≤ p) × (p ≤ stop)

shape_in : (start stop : ℕ) (b : Body) → BodyIn start stop b → LookIn start stop (shape_look b)
unfolding shape_look
shape_in start stop (Inner kind p) h = h
shape_in start stop Leaf h = tt
shape_in start stop Short h = tt

judged_in : (start stop : ℕ) (b : Body) → BodyIn start stop b → LookIn start stop (judged_look b)
unfolding judged_look
judged_in start stop (Inner kind p) h = either (LookIn start stop) (eqb kind command_kind) {a = Over} {b = Into kind p} (λ _. tt) (λ _. h)
judged_in start stop Leaf h = tt
judged_in start stop Short h = tt

look_in : (s : List ℕ) (class within last cell from at tag start stop : ℕ) → start ≤ stop → LookIn start stop (look s class within last cell from at tag start stop)
unfolding look
look_in s class within last cell from at tag start stop l =
    either (LookIn start stop) (ltb class 4) (λ _. shape_in start stop (body_of s within tag start stop) (body_in s within tag start stop l))
    (λ _. either (LookIn start stop) (faulty s class within last cell from at tag start stop) (λ _. tt)
    (λ _. either (LookIn start stop) (beyond_at s within tag start stop) (λ _. tt) (λ _. judged_in start stop (body_of s within tag start stop) (body_in s within tag start stop l))))

-- a fault lies at most at a place
abbrev pub FoundIn : ℕ → Option ℕ → Type 0
FoundIn end None = Prim.Unit {0}
FoundIn end (Some p) = p ≤ end

or_in : (end : ℕ) (a b : Option ℕ) → FoundIn end a → FoundIn end b → FoundIn end (or_then a b)
unfolding or_then
or_in end None b p q = q
or_in end (Some x) b p q = p

floor_in : (class within from end : ℕ) → from ≤ end → FoundIn end (floor class within from end)
unfolding floor
floor_in class within from end l =
    either (FoundIn end) (eqb class 3) (λ _. either (FoundIn end) (ltb (gap_of within) (end - from)) {a = Some (from + gap_of within)} {b = None} (λ t. omega tests) (λ _. tt)) (λ _. tt)

module _ (s : List ℕ) (class : ℕ) (below : ℕ → ℕ → ℕ → ℕ → Option ℕ) where
  goes_in : (at start stop end : ℕ) → at ≤ end → stop ≤ end → ((k o p e : ℕ) → o ≤ e → p ≤ e → e ≤ end → FoundIn end (below k o p e)) → at ≤ start → start ≤ stop → (rest : Option ℕ) → FoundIn end rest → (l : Look) → LookIn start stop l → FoundIn end (goes below at stop rest l)
  unfolding goes
  goes_in at start stop end a b f c d rest r Fault h = a
  goes_in at start stop end a b f c d rest r Over h = r
  goes_in at start stop end a b f c d rest r (Into kind p) h = or_in end (below kind at p stop) rest (f kind at p stop (omega arith) h.1 b) r

  row_fault_in : (within from last start end : ℕ) → ((k o p e : ℕ) → o ≤ e → p ≤ e → e ≤ end → FoundIn end (below k o p e)) → (r : Tlvs) → RowIn start end r → FoundIn end (row_fault s class below within from last r)
  unfolding row_fault
  row_fault_in within from last start end f (done p) h = tt
  row_fault_in within from last start end f (past p) h = h.1
  row_fault_in within from last start end f (tlv t at b e rest) h =
      goes_in at b e end (omega arith) h.3 f (omega arith) h.2 _ (row_fault_in within from (cell_of within t) e end f rest h.4) _ (look_in s class within last (cell_of within t) from at t b e h.2)

widen : (end most : ℕ) → end ≤ most → (f : Option ℕ) → FoundIn end f → FoundIn most f
widen end most l None h = tt
widen end most l (Some p) h = omega arith

walk_in : (left : ℕ) (s : List ℕ) (class within own from end : ℕ) → own ≤ end → from ≤ end → FoundIn end (walk left s class within own from end)
unfolding walk
walk_in zero s class within own from end a b = floor_in class within from end b
walk_in (suc left) s class within own from end a b =
    either (FoundIn end) (lacking class within end (tlvs (gap_of within) s from end)) {a = Some own} (λ _. a)
    (λ _. row_fault_in s class (λ k o p e. walk left s class k o p e) within from 0 from end
    (λ k o p e c d l. widen e end l (walk left s class k o p e) (walk_in left s class k o p e c d))
    (tlvs (gap_of within) s from end) (row_in (gap_of within) s from end b))

after_within : (s : List ℕ) (class stop : ℕ) → stop ≤ length s → FoundIn (length s) (after s class stop)
unfolding after
after_within s class stop l =
    either (FoundIn (length s)) (eqb class 2) (λ _. either (FoundIn (length s)) (ltb stop (length s)) {a = Some stop} {b = None} (λ _. l) (λ _. tt)) (λ _. tt)

-- a class from 1 to 7, and an offset of at most the page's length
abbrev pub JudgedIn : ℕ → Result (Unit {0}) Rejection → Type 0
JudgedIn most (Ok u) = Prim.Unit {0}
JudgedIn most (Err e) = (among (1 ∷ 2 ∷ 3 ∷ 4 ∷ 5 ∷ 6 ∷ 7 ∷ []) e.class ≡ true) × (e.place ≤ most)

rejected_in : (most class : ℕ) → among (1 ∷ 2 ∷ 3 ∷ 4 ∷ 5 ∷ 6 ∷ 7 ∷ []) class ≡ true → (rest : Result (Unit {0}) Rejection) → JudgedIn most rest → (f : Option ℕ) → FoundIn most f → JudgedIn most (or_rejected class rest f)
unfolding or_rejected
rejected_in most class a rest r None h = r
rejected_in most class a rest r (Some p) h = (a, h)

class_in : (s : List ℕ) (class stop : ℕ) → stop ≤ length s → FoundIn (length s) (class_fault s class stop)
unfolding class_fault
class_in s class stop l =
    or_in (length s) (walk 8 s class whole_kind 0 0 stop) (after s class stop) (widen stop (length s) l (walk 8 s class whole_kind 0 0 stop) (walk_in 8 s class whole_kind 0 0 stop (omega arith) (omega arith))) (after_within s class stop l)

head_judged : (s : List ℕ) (h : Option Tlv) → HeadIn 0 (length s) h → JudgedIn (length s) (judge_head s h)
unfolding judge_head judge_by classes among
head_judged s None h = (refl, omega arith)
head_judged s (Some q) h =
    rejected_in (length s) 2 refl _ (rejected_in (length s) 3 refl _ (rejected_in (length s) 4 refl _ (rejected_in (length s) 5 refl _ (rejected_in (length s) 6 refl _
    (rejected_in (length s) 7 refl _ tt _ (at 7)) _ (at 6)) _ (at 5)) _ (at 4)) _ (at 3)) _ (at 2)
  where
    at : (class : ℕ) → FoundIn (length s) (class_fault s class q.stop)
    at class = class_in s class q.stop h.2

pub judge_in : (s : List ℕ) → JudgedIn (length s) (judge s)
unfolding judge page_head among
judge_in s =
    either (JudgedIn (length s)) (eqb (length s) 0) {a = reject 1 0} (λ _. (refl, omega arith))
    (λ _. either (JudgedIn (length s)) (ltb 4096 (length s)) {a = reject 1 0} (λ _. (refl, omega arith)) (λ _. head_judged s (head_at s 0 (length s)) (head_in s 0 (length s))))
