-- The history stays within what number 35 asks, and its entries may be wanted.
-- Assumes nothing.
use mathlib.Core.Path.{◌≡◌, refl}
use mathlib.Core.Bool.{true, false, cond, true≢false, false≢true}
use mathlib.Core.List.{List, [], ◌∷◌, ◌++◌}
use Prim.Native.Nat.{ℕ, zero, suc, ◌+◌, ◌-◌, ◌≤◌, ◌<◌}
use native.Mathlib.Nat.{add-zero, add-suc}
use native.Mathlib.Omega.{arith}
use lib.ListN.{length, get_or, take, drop, length-append, length-take, length-drop}
use lib.Seq.{get_or-append_seam, get_or-append-add}
use lib.Dec.{ltb, leb, eqb}
use borrow.Author.Tests.{eqb-false, leb-true, le-leb}
use Rattle.rules.specs.Page.{identification, anchor, bytes_of, is_held, unrecorded}
use Rattle.rules.specs.Reference.{mark, mark_in, reference}
use Rattle.rules.specs.Forms.{is_marked, sizes, size_of}
use Rattle.rules.specs.Shape.{number_in}
use Rattle.rules.specs.Bytes.{among}
use Rattle.rules.specs.Card.{History}
use Rattle.rules.specs.Trail.{depth, pushed, topped, recorded, left, last, lowered}
use Rattle.rules.specs.IsCard.{within, entry_by, entries_fine, history_fine, wanted_fine}
use Rattle.rules.proofs.Choices.{both, either}
use Rattle.rules.proofs.Offsets.{tests}
use Rattle.rules.proofs.BlankTests.{first, second, pass}
use Rattle.rules.proofs.IsolationRows.{length_part}
use Rattle.rules.proofs.StaysCardPage.{PartFine, in_size, PageFine}
use Rattle.std.specs.Prelude.{Option, Some, None}
use Rattle.rules.specs.declared.Span.{Span}

-- between two bounds
pub between : (least most n : ℕ) → least ≤ n → n ≤ most → within least most n ≡ true
unfolding within
between least most n a b = pass (le-leb least n a) (le-leb n most b)

pub bounds : (least most n : ℕ) → within least most n ≡ true → (least ≤ n) × (n ≤ most)
unfolding within
bounds least most n e = (leb-true least n (first (leb least n) _ e), leb-true n most (second (leb least n) _ e))

-- a reference of 2 to 65 bytes may be wanted
pub may_want : (r : List ℕ) → within 2 65 (length r) ≡ true → wanted_fine r ≡ true
unfolding wanted_fine
may_want [] e = refl
may_want (x ∷ xs) e = e

-- the last '23' of a reference is the one before its anchor
unmarked_cut : (p : Option ℕ) → is_marked p ≡ false → p ≡ None
unfolding is_marked
unmarked_cut (Some n) e = absurd (true≢false e)
unmarked_cut None e = refl

seam_mark : (p a : List ℕ) (j : ℕ) → mark_in j a ≡ None → mark_in (suc (length p) + j) (p ++ 0x23 ∷ a) ≡ Some (length p)
unfolding mark_in
seam_mark p a zero e = rw (add-zero (suc (length p)), get_or-append_seam p 0x23 a 0)
seam_mark p a (suc j) e =
    let g : get_or (p ++ 0x23 ∷ a) (suc (length p) + j) 0 ≡ get_or a j 0 =
    let q : suc (length p) + j ≡ length p + suc j = omega arith in rw q (get_or-append-add p (0x23 ∷ a) (suc j) 0) in
    both (eqb (get_or a j 0) 0x23)
    (λ t. let k : Some j ≡ None = rw t at e in let z : ◌≡◌ {A = ℕ} 0 1 = cc in absurd (omega arith))
    (λ t. rw (add-suc (suc (length p)) j, g, t) (seam_mark p a j (rw t at e)))

reference_mark : (p a : List ℕ) → is_marked (mark a) ≡ false → mark (reference p a) ≡ Some (length p)
unfolding mark reference
reference_mark p a e =
    let l : length (p ++ 0x23 ∷ a) ≡ suc (length p) + length a = rw (length-append p (0x23 ∷ a)) (omega arith) in
    rw l (seam_mark p a (length a) (unmarked_cut (mark_in (length a) a) e))

-- an entry of a unit
reference_fine : (p a : List ℕ) → (1 ≤ length p) × (length p ≤ 32) → (1 ≤ length a) × (length a ≤ 32) → is_marked (mark a) ≡ false → entry_by (length (reference p a)) (mark (reference p a)) ≡ true
unfolding entry_by
reference_fine p a h k e =
    let l : length (reference p a) ≡ length p + 1 + length a = unfold reference in rw (length-append p (0x23 ∷ a)) (omega arith) in
    rw (reference_mark p a e) (pass (between 1 32 (length p) h.0 h.1) (between 1 32 (length (reference p a) - (length p + 1)) (omega arith) (omega arith)))

-- an entry may be wanted
entry_size : (size : ℕ) (p : Option ℕ) → entry_by size p ≡ true → within 2 65 size ≡ true
unfolding entry_by
entry_size size (Some n) e =
    let i = bounds 1 32 n (first (within 1 32 n) _ e) in
    let j = bounds 1 32 (size - (n + 1)) (second (within 1 32 n) _ e) in
    between 2 65 size (omega arith) (omega arith)
entry_size size None e = absurd (false≢true e)

-- entries that are taken, dropped, added
entries_take : (n : ℕ) (es : List (List ℕ)) → entries_fine es ≡ true → entries_fine (take n es) ≡ true
unfolding entries_fine
entries_take zero es h = refl
entries_take (suc n) [] h = refl
entries_take (suc n) (e ∷ es) h = pass (first (entry_by (length e) (mark e)) _ h) (entries_take n es (second (entry_by (length e) (mark e)) _ h))

entries_drop : (es : List (List ℕ)) → entries_fine es ≡ true → entries_fine (drop 1 es) ≡ true
unfolding entries_fine
entries_drop [] h = refl
entries_drop (e ∷ es) h = second (entry_by (length e) (mark e)) _ h

entries_add : (es : List (List ℕ)) (e : List ℕ) → entries_fine es ≡ true → entry_by (length e) (mark e) ≡ true → entries_fine (es ++ e ∷ []) ≡ true
unfolding entries_fine
entries_add [] e h k = pass k refl
entries_add (x ∷ xs) e h k = pass (first (entry_by (length x) (mark x)) _ h) (entries_add xs e (second (entry_by (length x) (mark x)) _ h) k)

entries_at : (es : List (List ℕ)) (n : ℕ) → n < length es → entries_fine es ≡ true → within 2 65 (length (get_or es n [])) ≡ true
unfolding entries_fine
entries_at [] n l h = absurd (omega arith)
entries_at (e ∷ es) zero l h = entry_size (length e) (mark e) (first (entry_by (length e) (mark e)) _ h)
entries_at (e ∷ es) (suc n) l h = entries_at es n (omega arith) (second (entry_by (length e) (mark e)) _ h)

pub record HistoryFit (h : History) : Type 0 where
  pub many : length h.entries ≤ depth
  pub reach : h.pointer ≤ length h.entries
  pub fine : entries_fine h.entries ≡ true

pub history_fit : (h : History) → history_fine h ≡ true → HistoryFit h
unfolding history_fine
history_fit h e =
    let e1 = second (leb (length h.entries) depth) _ e in
    record {
      many = leb-true _ _ (first (leb (length h.entries) depth) _ e);
      reach = leb-true _ _ (first (leb h.pointer (length h.entries)) _ e1);
      fine = second (leb h.pointer (length h.entries)) _ e1;
    }

pub fit_history : (h : History) → HistoryFit h → history_fine h ≡ true
unfolding history_fine
fit_history h f = pass (le-leb _ _ f.many) (pass (le-leb _ _ f.reach) f.fine)

topped_fit : (es : List (List ℕ)) → length es ≤ depth → entries_fine es ≡ true → HistoryFit (topped es)
unfolding topped
topped_fit es l h = record { many = l; reach = omega arith; fine = h }

pushed_fit : (es : List (List ℕ)) (e : List ℕ) → length es ≤ depth → entries_fine es ≡ true → entry_by (length e) (mark e) ≡ true → HistoryFit (topped (pushed es e))
unfolding pushed
pushed_fit es e l h k =
    both (ltb (length es) depth)
    (λ t. rw t (topped_fit (es ++ e ∷ []) (rw (length-append es (e ∷ [])) (omega tests)) (entries_add es e h k)))
    (λ t. rw t (topped_fit (drop 1 es ++ e ∷ []) (rw (length-append (drop 1 es) (e ∷ []), length-drop 1 es) (omega tests)) (entries_add (drop 1 es) e (entries_drop es h) k)))

-- the unit that a branch leaves
anchor_size : (s : List ℕ) (p : Option Span) → is_held p ≡ true → PartFine s 0x0B p → ((1 ≤ length (bytes_of s p)) × (length (bytes_of s p) ≤ 32)) × (is_marked (mark (bytes_of s p)) ≡ false)
unfolding is_held bytes_of size_of sizes number_in among
anchor_size s (Some p) e h = (rw (length_part s p.from p.end h.1) (in_size 96 (p.end - p.from) refl h.0), h.2 refl)
anchor_size s None e h = absurd (false≢true e)

pub left_fit : (s : List ℕ) (k : ℕ) (h : History) → PageFine s → HistoryFit h → HistoryFit (left s k h)
unfolding left recorded
left_fit s k h p f =
    let es = take h.pointer h.entries in
    let l : length es ≤ depth = let m = f.many in rw (length-take h.pointer h.entries) (omega arith) in
    let g = entries_take h.pointer h.entries f.fine in
    both (is_held (anchor s k))
    (λ t.
    let a = anchor_size s (anchor s k) t (p.anchored k) in
    rw t
    (either HistoryFit (cond (unrecorded s k) false true)
    (λ _. pushed_fit es (reference (identification s) (bytes_of s (anchor s k))) l g (reference_fine (identification s) (bytes_of s (anchor s k)) p.name a.0 a.1))
    (λ _. topped_fit es l g)))
    (λ t. rw t (topped_fit es l g))

pub lowered_fit : (h : History) → HistoryFit h → HistoryFit (lowered h)
unfolding lowered
lowered_fit h f = let r = f.reach in record { many = f.many; reach = omega arith; fine = f.fine }

pub last_wanted : (h : History) → HistoryFit h → eqb h.pointer 0 ≡ false → within 2 65 (length (last h)) ≡ true
unfolding last
last_wanted h f e =
    let r = f.reach in
    let z = eqb-false h.pointer 0 e in
    entries_at h.entries (h.pointer - 1) (omega arith) f.fine
