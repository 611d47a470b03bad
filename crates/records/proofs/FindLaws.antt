-- A record found by its number and its Service ID, and a free place.
-- Assumes nothing.
use Prim.Native.Nat.{ℕ, ◌+◌, ◌-◌, ◌*◌, ◌<◌}
use mathlib.Core.Bool.{Bool, true, false, cond}
use mathlib.Core.List.{List, ◌∷◌}
use mathlib.Core.Path.{◌≡◌, refl, sym, ap, ◌∙◌}
use native.Mathlib.Numerals.{add-one}
use native.Mathlib.Omega.{arith}
use lib.ListN.{length, get_or, take, drop}
use lib.Seq.{drop-cons}
use borrow.Author.Tests.{eq-eqb, ne_eqb, lt-ltb}
use Rattle.std.specs.Prelude.{Option, None, Some}
use Rattle.pour.proofs.StrideLaws.{each_more, each_done}
use Rattle.rules.specs.Bytes.{same, part}
use Rattle.rules.specs.Card.{none}
use Rattle.rules.specs.Store.{is_record, record_from, is_free, free_from, place_for}
use Rattle.records.specs.Records.{IsPlace, record_in, records}
use Rattle.records.proofs.RecordLaws.{sixty_four, none_free, stored_free}

module _ (p id : List ℕ) (number : ℕ) where
  pub is_none : get_or p 0 0 ≡ 0 → false ≡ is_record id number (record_in p)
  unfolding is_record record_in
  is_none e = simp (eq-eqb _ _ e)

  module _ (e : get_or p 0 0 ≡ 0 → ⊥) where
    pub is_other : (get_or p 1 0 ≡ number → ⊥) → false ≡ is_record id number (record_in p)
    unfolding is_record record_in
    is_other f = simp (ne_eqb _ _ e, ne_eqb _ _ f)

    pub is_same : get_or p 1 0 ≡ number → (n : ℕ) → n ≡ get_or p 2 0 → (r : Bool) → r ≡ same (take (8 + n - 8) (drop 8 p)) id → r ≡ is_record id number (record_in p)
    unfolding is_record record_in part
    is_same f n g r i = simp (ne_eqb _ _ e, eq-eqb _ _ f, ← g) i

-- `w` is the place that the search from its start finds
module _ (a id : List ℕ) (number k w : ℕ) (inv : record_from k id number (drop k (records a)) ≡ w) where
  pub find_done : k ≡ 64 → w ≡ 64
  unfolding record_from records
  find_done e = sym inv ∙ ap (record_from k id number) (each_done record_in 64 280 a k (omega arith)) ∙ e

  module _ (h : k < 64) (r : Bool) (e : r ≡ is_record id number (record_in (take (k * 280 + 280 - k * 280) (drop (k * 280) a)))) where
    step : record_from k id number (drop k (records a)) ≡ cond r k (record_from (k + 1) id number (drop (k + 1) (records a)))
    unfolding record_from records
    step = rw (each_more record_in 64 280 a k h, e)

    pub find_this : r ≡ true → k ≡ w
    find_this f = sym (rw f at step) ∙ inv

    pub find_more : r ≡ false → record_from (k + 1) id number (drop (k + 1) (records a)) ≡ w
    find_more f = sym (rw f at step) ∙ inv

module _ (a : List ℕ) (k w : ℕ) (inv : free_from k (drop k (records a)) ≡ w) where
  pub free_done : k ≡ 64 → w ≡ 64
  unfolding free_from records
  free_done e = sym inv ∙ ap (free_from k) (each_done record_in 64 280 a k (omega arith)) ∙ e

  module _ (h : k < 64) where
    go : free_from k (drop k (records a)) ≡ cond (is_free (get_or (records a) k none)) k (free_from (k + 1) (drop (k + 1) (records a)))
    unfolding free_from
    go =
        let l : length (records a) ≡ 64 = sixty_four a in
        let d : drop k (records a) ≡ get_or (records a) k none ∷ drop (k + 1) (records a) = rw (add-one k) (drop-cons (records a) k none (omega arith)) in
        rw d

    pub free_this : get_or a (k * 280) 0 ≡ 0 → k ≡ w
    free_this e = sym (rw (none_free a k h e) at go) ∙ inv

    pub free_more : (get_or a (k * 280) 0 ≡ 0 → ⊥) → free_from (k + 1) (drop (k + 1) (records a)) ≡ w
    free_more e = sym (rw (stored_free a k h e) at go) ∙ inv

-- its own place, or else a free one
pub place_own : (a id : List ℕ) (number : ℕ) (k : ℕ) → IsPlace (Some k) (record_from 0 id number (records a)) → IsPlace (Some k) (place_for id number (records a))
unfolding place_for
place_own a id number k h = simp (sixty_four a, ← h.0, lt-ltb _ _ h.1) (refl, h.1)

pub place_free : (a id : List ℕ) (number : ℕ) (o : Option ℕ) → IsPlace None (record_from 0 id number (records a)) → IsPlace o (free_from 0 (records a)) → IsPlace o (place_for id number (records a))
unfolding place_for
place_free a id number o h f = simp (sixty_four a, h) f

pub ruleset find_laws = (is_none, is_other, is_same, find_done, find_this, find_more, free_done, free_this, free_more, place_own, place_free)
