-- The ways through the functions on a response, in the shape of what their proofs need; and that an output is always a value.
-- Assumes nothing.
use Prim.Native.Nat.{ℕ, ◌+◌, ◌%◌, ◌≤◌, ◌<◌}
use mathlib.Core.Bool.{Bool, true, false, cond}
use mathlib.Core.List.{List, []}
use mathlib.Core.Path.{◌≡◌, refl, sym, ◌∙◌}
use native.Mathlib.Omega.{arith}
use lib.ListN.{length, get_or}
use lib.Dec.{leb, eqb}
use borrow.Author.Tests.{lt-ltb, le-ltb, eq-eqb, ne_eqb, leb-true}
use Rattle.rules.specs.Bytes.{part}
use Rattle.rules.specs.Tlv.{head_at}
use Rattle.rules.specs.Tlvs.{Tlvs, row, tlvs, plain}
use Rattle.rules.specs.Card.{held}
use Rattle.rules.specs.Store.{value_bytes, value_type}
use Rattle.rules.specs.Command.{fills, first_of, result_in, reply, text_type, optimised}
use Rattle.leaf.proofs.Cases.{both, tests, was}
use Rattle.tlv.proofs.Rows.{tlvs_more, row_done, row_past, row_next, row_ends}
use Rattle.std.specs.Prelude.{Option, Some, None}
use Rattle.rules.specs.declared.Tlv.{Tlv}
use Rattle.rules.specs.Built.{some_reply}
use Rattle.rules.specs.declared.Reply.{Reply}

-- `w`, here and below, is what the whole row comes to, and `inv` that the rest comes to the same
module _ (s : List ℕ) (at end : ℕ) (w : Bool) (inv : fills (tlvs 0 s at end) ≡ w) where
  module _ (r : Option Tlv) (is : r ≡ head_at s at end) where
    pub fills_ends : r ≡ None → at ≤ end → eqb at end ≡ w
    unfolding fills
    fills_ends x h =
        both (leb end at)
        (λ t. eq-eqb at end (omega tests) ∙ sym (simp (row_done s at end (omega tests))) ∙ inv)
        (λ t. ne_eqb at end (λ e. omega tests) ∙ sym (simp (row_past s at end (omega tests) (was is x))) ∙ inv)

    pub fills_more : (v : Tlv) → r ≡ Some v → fills (tlvs 0 s v.stop end) ≡ w
    unfolding fills
    fills_more v x = sym (simp (row_next s at end (was is x))) ∙ inv

pub ruleset fills_laws = (fills_ends, fills_more)

first_row : (rest : ℕ → Tlvs) (at : ℕ) (h : Option Tlv) → first_of (row rest at h) ≡ h
unfolding first_of row
first_row rest at (Some h) = refl
first_row rest at None = refl

-- the first TLV of a row is the one at its place
first_head : (s : List ℕ) (at end : ℕ) → first_of (tlvs 0 s at end) ≡ head_at s at end
unfolding first_of head_at
first_head s at end =
    both (leb end at) (λ t. simp (t, row_done s at end (leb-true end at t)))
    (λ t. let here : at + 0 ≡ at = omega arith in rw (tlvs_more 0 s at end (omega tests)) (first_row _ (at + 0) (head_at s (at + 0) end) ∙ rw here))

module _ (s : List ℕ) (at end : ℕ) (w : Option Reply) (inv : result_in s (tlvs 0 s at end) ≡ w) where
  module _ (r : Option Tlv) (is : r ≡ head_at s at end) where
    pub result_ends : r ≡ None → None ≡ w
    unfolding result_in
    result_ends x = sym (row_ends s at end (result_in s) (was is x) refl refl) ∙ inv

    module _ (v : Tlv) (x : r ≡ Some v) where
      pub result_this : v.tag % 128 ≡ 0x03 → v.start < v.stop → (b : ℕ) → b ≡ get_or s v.start 0 → (next : Option Tlv) → next ≡ head_at s v.stop end → some_reply b next ≡ w
      unfolding result_in plain
      result_this y z b e next n = sym (simp (row_next s at end (was is x), eq-eqb _ _ y, lt-ltb _ _ z, first_head s v.stop end, n, e)) ∙ inv

      pub result_empty : v.tag % 128 ≡ 0x03 → v.stop ≤ v.start → result_in s (tlvs 0 s v.stop end) ≡ w
      unfolding result_in plain
      result_empty y z = sym (simp (row_next s at end (was is x), eq-eqb _ _ y, le-ltb _ _ z)) ∙ inv

      pub result_other : (v.tag % 128 ≡ 0x03 → ⊥) → result_in s (tlvs 0 s v.stop end) ≡ w
      unfolding result_in plain
      result_other y = sym (simp (row_next s at end (was is x), ne_eqb _ _ y)) ∙ inv

pub ruleset result_laws = (result_ends, result_this, result_empty, result_other)

module _ (r : List ℕ) where
  pub reply_none : length r ≡ 0 → None ≡ reply r
  unfolding reply
  reply_none h = simp (eq-eqb _ _ h)

  module _ (h : length r ≡ 0 → ⊥) where
    pub reply_long : 255 < length r → None ≡ reply r
    unfolding reply
    reply_long k = simp (ne_eqb _ _ h, lt-ltb _ _ k)

    module _ (k : length r ≤ 255) (f : Bool) (is : f ≡ fills (tlvs 0 r 0 (length r))) where
      pub reply_cut : f ≡ false → None ≡ reply r
      unfolding reply
      reply_cut x = simp (ne_eqb _ _ h, le-ltb _ _ k, was is x)

      pub reply_read : f ≡ true → (p : Option Reply) → p ≡ result_in r (tlvs 0 r 0 (length r)) → p ≡ reply r
      unfolding reply
      reply_read x p y = simp (ne_eqb _ _ h, le-ltb _ _ k, was is x) y

pub ruleset reply_laws = (reply_none, reply_long, reply_cut, reply_read)

module _ (r : List ℕ) (after : Option Tlv) where
  pub type_none : after ≡ None → 0 ≡ value_type (optimised r after)
  unfolding optimised value_type
  type_none x = simp x

  pub bytes_none : after ≡ None → [] ≡ value_bytes (optimised r after)
  unfolding optimised value_bytes
  bytes_none x = simp x

  module _ (v : Tlv) (x : after ≡ Some v) where
    module _ (y : v.tag % 128 ≡ 0x0D) where
      pub type_text : v.start < v.stop → (b t : ℕ) → b ≡ get_or r v.start 0 → t ≡ text_type b → t ≡ value_type (optimised r after)
      unfolding optimised value_type plain
      type_text z b t e f = simp (x, eq-eqb _ _ y, lt-ltb _ _ z, ← e) f

      pub type_empty : v.stop ≤ v.start → 0 ≡ value_type (optimised r after)
      unfolding optimised value_type plain
      type_empty z = simp (x, eq-eqb _ _ y, le-ltb _ _ z)

      pub bytes_text : v.start < v.stop → (b : List ℕ) → b ≡ part r (v.start + 1) v.stop → b ≡ value_bytes (optimised r after)
      unfolding optimised value_bytes plain
      bytes_text z b e = simp (x, eq-eqb _ _ y, lt-ltb _ _ z) e

      pub bytes_empty : v.stop ≤ v.start → [] ≡ value_bytes (optimised r after)
      unfolding optimised value_bytes plain
      bytes_empty z = simp (x, eq-eqb _ _ y, le-ltb _ _ z)

    module _ (y : v.tag % 128 ≡ 0x0D → ⊥) where
      pub type_other : 0 ≡ value_type (optimised r after)
      unfolding optimised value_type plain
      type_other = simp (x, ne_eqb _ _ y)

      pub bytes_other : (b : List ℕ) → b ≡ part r v.start v.stop → b ≡ value_bytes (optimised r after)
      unfolding optimised value_bytes plain
      bytes_other b e = simp (x, ne_eqb _ _ y) e

pub ruleset type_laws = (type_none, type_text, type_empty, type_other)

pub ruleset bytes_laws = (bytes_none, bytes_text, bytes_empty, bytes_other)

module _ (r : List ℕ) (o : Bool) (after : Option Tlv) where
  module _ (x : o ≡ true) where
    pub output_type_taken : (t : ℕ) → t ≡ value_type (optimised r after) → t ≡ value_type (cond o (optimised r after) (held 0 r))
    output_type_taken t e = rw x e

    pub output_bytes_taken : (b : List ℕ) → b ≡ value_bytes (optimised r after) → b ≡ value_bytes (cond o (optimised r after) (held 0 r))
    output_bytes_taken b e = rw x e

  module _ (x : o ≡ false) where
    pub output_type_whole : 0 ≡ value_type (cond o (optimised r after) (held 0 r))
    unfolding value_type
    output_type_whole = rw x refl

    pub output_bytes_whole : r ≡ value_bytes (cond o (optimised r after) (held 0 r))
    unfolding value_bytes
    output_bytes_whole = rw x refl

pub ruleset output_laws = (output_type_taken, output_bytes_taken, output_type_whole, output_bytes_whole)
