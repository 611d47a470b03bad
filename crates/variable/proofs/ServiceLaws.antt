-- The ways through `service_of`, `unserved`, `writing` and the functions on a permanent variable.
-- Assumes nothing.
use Prim.Native.Nat.{ℕ, suc, ◌+◌, ◌-◌, ◌≤◌, ◌<◌}
use mathlib.Core.Bool.{Bool, true, false, cond}
use mathlib.Core.List.{List, [], ◌∷◌}
use mathlib.Core.Path.{◌≡◌, refl, sym, subst, ◌∙◌}
use native.Mathlib.Omega.{arith}
use lib.ListN.{length, get_or, get_or-eq_default}
use lib.Dec.{ltb}
use borrow.Author.Tests.{lt-ltb, le-ltb, eq-eqb, ne_eqb}
use Rattle.rules.specs.declared.Complaint.{Complaint}
use Rattle.rules.specs.declared.Complaint.TheVariants.{Nothing, Undefined, Secured, Misused}
use Rattle.rules.specs.Bytes.{part}
use Rattle.rules.specs.Page.{bytes_of, page_part, service}
use Rattle.rules.specs.Card.{Record, none, stored}
use Rattle.rules.specs.Store.{area, permanently, is_record, record_from, value_of, look_for, value_bytes, value_type, unserved, undefined_in, worse, writing_in}
use Rattle.records.specs.Records.{IsPlace, records}
use Rattle.records.proofs.RecordLaws.{sixty_four}
use Rattle.leaf.proofs.Cases.{both}
use Rattle.variable.proofs.ComplaintLaws.{worse_nothing, worse_secured}
use Rattle.std.specs.Prelude.{Option, None, Some, is_some}
use Rattle.rules.specs.declared.Span.{Span}

module _ (s : List ℕ) (p : Option Span) (is : p ≡ page_part s 0x06) where
  pub service_none : p ≡ None → [] ≡ service s
  unfolding service bytes_of
  service_none x = simp (sym is ∙ x)

  pub service_held : (w : Span) → p ≡ Some w → (v : List ℕ) → v ≡ part s w.from w.end → v ≡ service s
  unfolding service bytes_of
  service_held w x v y = simp (sym is ∙ x) y

pub ruleset service_laws = (service_none, service_held)

module _ (s : List ℕ) (n : ℕ) where
  pub unserved_environment : n < 64 → Nothing ≡ unserved (service s) (area n)
  unfolding unserved area
  unserved_environment h = simp (lt-ltb _ _ h)

  module _ (h : 64 ≤ n) where
    module _ (k : n < 128) (id : List ℕ) (is : id ≡ service s) where
      pub unserved_none : length id ≡ 0 → Secured ≡ unserved (service s) (area n)
      unfolding unserved area
      unserved_none e = simp (le-ltb _ _ h, lt-ltb _ _ k, ← is, eq-eqb _ _ e)

      pub unserved_some : (length id ≡ 0 → ⊥) → Nothing ≡ unserved (service s) (area n)
      unfolding unserved area
      unserved_some e = simp (le-ltb _ _ h, lt-ltb _ _ k, ← is, ne_eqb _ _ e)

    pub unserved_other : 128 ≤ n → Nothing ≡ unserved (service s) (area n)
    unfolding unserved area
    unserved_other k = simp (le-ltb _ _ h, le-ltb _ _ k) (both (ltb n 192) (λ t. simp t) (λ t. simp t))

pub ruleset unserved_laws = (unserved_environment, unserved_none, unserved_some, unserved_other)

module _ (s : List ℕ) (n : ℕ) where
  pub writing_environment : n < 64 → Secured ≡ writing_in (service s) (area n)
  unfolding writing_in area
  writing_environment h = simp (lt-ltb _ _ h)

  module _ (h : 64 ≤ n) where
    pub writing_permanent : n < 128 → (r : Complaint) → r ≡ unserved (service s) (area n) → r ≡ writing_in (service s) (area n)
    unfolding writing_in unserved area
    writing_permanent k r e = simp (le-ltb _ _ h, lt-ltb _ _ k) (simp (le-ltb _ _ h, lt-ltb _ _ k) at e)

    module _ (k : 128 ≤ n) where
      pub writing_temporary : n < 192 → Nothing ≡ writing_in (service s) (area n)
      unfolding writing_in area
      writing_temporary l = simp (le-ltb _ _ h, le-ltb _ _ k, lt-ltb _ _ l)

      pub writing_string : 192 ≤ n → Misused ≡ writing_in (service s) (area n)
      unfolding writing_in area
      writing_string l = simp (le-ltb _ _ h, le-ltb _ _ k, le-ltb _ _ l)

pub ruleset writing_laws = (writing_environment, writing_permanent, writing_temporary, writing_string)

-- a record that is found is a value, and what is not found is none
from_below : (k : ℕ) (id : List ℕ) (n : ℕ) (rs : List Record) → k ≤ record_from k id n rs
unfolding record_from
from_below k id n [] = omega arith
from_below k id n (r ∷ rs) = both (is_record id n r) (λ t. simp t (omega arith)) (λ t. simp t (let h = from_below (k + 1) id n rs in omega arith))

is_value : (id : List ℕ) (n : ℕ) (r : Record) → is_record id n r ≡ true → undefined_in (value_of r) ≡ Nothing
unfolding is_record value_of undefined_in
is_value id n none e = let z : ◌≡◌ {A = Bool} false true = e in cc
is_value id n (stored i m type bytes) e = refl

found : (k : ℕ) (id : List ℕ) (n : ℕ) (rs : List Record) → undefined_in (value_of (get_or rs (record_from k id n rs - k) none)) ≡ cond (ltb (record_from k id n rs) (k + length rs)) Nothing Undefined
unfolding record_from value_of undefined_in
found k id n [] = let h : k + 0 ≤ k = omega arith in simp (le-ltb k (k + 0) h)
found k id n (r ∷ rs) =
    both (is_record id n r)
    (λ t.
    let z : k - k ≡ 0 = omega arith in
    let h : k < k + suc (length rs) = omega arith in
    simp (t, z, lt-ltb k (k + suc (length rs)) h) (is_value id n r t))
    (λ t.
    let b = from_below (k + 1) id n rs in
    let z : record_from (k + 1) id n rs - k ≡ suc (record_from (k + 1) id n rs - (k + 1)) = omega arith in
    let l : k + suc (length rs) ≡ k + 1 + length rs = omega arith in
    simp (t, z, l) (found (k + 1) id n rs))

look_defined : (id : List ℕ) (n : ℕ) (m : List ℕ) → undefined_in (look_for id n (records m)) ≡ cond (ltb (record_from 0 id n (records m)) 64) Nothing Undefined
unfolding look_for
look_defined id n m =
    let z : record_from 0 id n (records m) - 0 ≡ record_from 0 id n (records m) = omega arith in
    let l : 0 + length (records m) ≡ 64 = omega (arith, sixty_four m) in
    rw (z, l) at (found 0 id n (records m))

place_below : (k : Option ℕ) (n : ℕ) → IsPlace k n → is_some k ≡ ltb n 64
place_below None n h = rw h refl
place_below (Some k) n h = sym (lt-ltb n 64 (let e = h.0 in let l = h.1 in omega arith))

module _ (s m : List ℕ) (n : ℕ) where
  pub permanent_at : (id : List ℕ) → id ≡ service s → (k : Option ℕ) → IsPlace k (record_from 0 id n (records m)) → IsPlace k (record_from 0 (service s) n (records m))
  permanent_at id is k e = rw is at e

  module _ (id : List ℕ) (is : id ≡ service s) where
    pub permanent_unserved : length id ≡ 0 → Secured ≡ worse (unserved (service s) permanently) (undefined_in (look_for (service s) n (records m)))
    unfolding unserved
    permanent_unserved e = simp (← is, eq-eqb _ _ e) (sym (worse_secured (look_for id n (records m))))

    pub permanent_served : (length id ≡ 0 → ⊥) → (k : Option ℕ) → IsPlace k (record_from 0 id n (records m)) → (r : Complaint) → r ≡ cond (is_some k) Nothing Undefined → r ≡ worse (unserved (service s) permanently) (undefined_in (look_for (service s) n (records m)))
    unfolding unserved
    permanent_served e k f r g = simp (← is, ne_eqb _ _ e) (g ∙ rw (place_below k _ f) (sym (worse_nothing _ ∙ look_defined id n m)))

  past_last : record_from 0 (service s) n (records m) ≡ 64 → get_or (records m) (record_from 0 (service s) n (records m)) none ≡ none
  past_last h = get_or-eq_default (records m) none (omega (arith, sixty_four m))

  module _ (k : Option ℕ) (is : IsPlace k (record_from 0 (service s) n (records m))) where
    module _ (j : ℕ) (h : k ≡ Some j) where
      here : j ≡ record_from 0 (service s) n (records m)
      here = (subst (λ o. IsPlace o (record_from 0 (service s) n (records m))) h is).0

      pub permanent_held : (v : List ℕ) → v ≡ value_bytes (value_of (get_or (records m) j none)) → v ≡ value_bytes (look_for (service s) n (records m))
      unfolding look_for
      permanent_held v e = rw here at e

      pub permanent_typed : (t : ℕ) → t ≡ value_type (value_of (get_or (records m) j none)) → t ≡ value_type (look_for (service s) n (records m))
      unfolding look_for
      permanent_typed t e = rw here at e

      pub permanent_below : j < 64
      permanent_below = (subst (λ o. IsPlace o (record_from 0 (service s) n (records m))) h is).1

    module _ (h : k ≡ None) where
      nowhere : record_from 0 (service s) n (records m) ≡ 64
      nowhere = subst (λ o. IsPlace o (record_from 0 (service s) n (records m))) h is

      pub permanent_free : [] ≡ value_bytes (look_for (service s) n (records m))
      unfolding look_for value_of value_bytes
      permanent_free = rw (past_last nowhere)

      pub permanent_untyped : 0 ≡ value_type (look_for (service s) n (records m))
      unfolding look_for value_of value_type
      permanent_untyped = rw (past_last nowhere)

pub ruleset permanent_laws = (permanent_at, permanent_unserved, permanent_served, permanent_held, permanent_free, permanent_typed, permanent_untyped, permanent_below)
