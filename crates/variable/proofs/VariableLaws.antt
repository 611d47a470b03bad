-- The ways through `value_of`, `type_of` and `reading`, by the area of the number, and through the functions on a page's string.
-- Assumes nothing.
use Prim.Native.Nat.{ℕ, ◌-◌, ◌≤◌, ◌<◌}
use mathlib.Core.Bool.{Bool, cond}
use mathlib.Core.List.{List, []}
use mathlib.Core.Path.{◌≡◌, sym, ◌∙◌}
use native.Mathlib.Omega.{arith}
use lib.ListN.{length, get_or, length-take, length-drop}
use borrow.Author.Tests.{lt-ltb, le-ltb}
use Rattle.rules.specs.declared.Complaint.{Complaint}
use Rattle.rules.specs.declared.Complaint.TheVariants.{Nothing, Undefined}
use Rattle.rules.specs.Bytes.{part}
use Rattle.rules.specs.Page.{service, page_type, element}
use Rattle.rules.specs.Card.{free, Card}
use Rattle.rules.specs.Store.{area, permanently, look_for, string_of, read_in, read, value_bytes, value_type, unserved, undefined_in, worse, reading}
use Rattle.slots.specs.Slots.{slots, is_held}
use Rattle.records.specs.Records.{records}
use Rattle.variable.specs.View.{seen, view}
use Rattle.variable.proofs.ComplaintLaws.{worse_nothing, undefined_held}
use Rattle.std.specs.Prelude.{Option, None, Some}
use Rattle.rules.specs.declared.Span.{Span}

module _ (s : List ℕ) (n : ℕ) (p : Option Span) (is : p ≡ element s n) where
  module _ (x : p ≡ None) where
    pub string_free : [] ≡ value_bytes (string_of s (element s n))
    unfolding string_of value_bytes
    string_free = simp (sym is ∙ x)

    pub string_untyped : 0 ≡ value_type (string_of s (element s n))
    unfolding string_of value_type
    string_untyped = simp (sym is ∙ x)

    pub string_undefined : Undefined ≡ undefined_in (string_of s (element s n))
    unfolding string_of undefined_in
    string_undefined = simp (sym is ∙ x)

  module _ (w : Span) (x : p ≡ Some w) where
    pub string_held : (v : List ℕ) → v ≡ part s w.from w.end → v ≡ value_bytes (string_of s (element s n))
    unfolding string_of value_bytes
    string_held v e = simp (sym is ∙ x) e

    pub string_typed : (t : ℕ) → t ≡ page_type s → t ≡ value_type (string_of s (element s n))
    unfolding string_of value_type
    string_typed t e = simp (sym is ∙ x) e

    pub string_defined : Nothing ≡ undefined_in (string_of s (element s n))
    unfolding string_of undefined_in
    string_defined = simp (sym is ∙ x)

pub string_short : (s : List ℕ) (a b : ℕ) (v : List ℕ) → v ≡ part s a b → length v ≤ length s
unfolding part
string_short s a b v e = rw e (simp (length-take, length-drop) (omega arith))

pub ruleset string_laws = (string_free, string_untyped, string_undefined, string_held, string_typed, string_defined, string_short)

module _ (page env temp perm : List ℕ) (n : ℕ) where
  abbrev c : Card
  c = view page env temp perm

  module _ (h : n < 64) where
    in_environment : read c n ≡ get_or (slots env) n free
    unfolding read read_in area view seen
    in_environment = simp (lt-ltb _ _ h)

    module _ (k : ℕ) (e : k ≡ n) where
      pub environment_value : (v : List ℕ) → v ≡ value_bytes (get_or (slots env) k free) → v ≡ value_bytes (read c n)
      environment_value v f = rw (in_environment, ← e) f

      pub environment_type : (t : ℕ) → t ≡ value_type (get_or (slots env) k free) → t ≡ value_type (read c n)
      environment_type t f = rw (in_environment, ← e) f

      pub environment_reading : (b : Bool) → b ≡ is_held (get_or (slots env) k free) → (r : Complaint) → r ≡ cond b Nothing Undefined → r ≡ reading c n
      unfolding reading unserved area
      environment_reading b f r g = simp (lt-ltb _ _ h) (g ∙ rw (f, e, ← in_environment) (sym (worse_nothing _ ∙ undefined_held (read c n))))

  module _ (h : 64 ≤ n) where
    module _ (i : n < 128) where
      in_permanent : read c n ≡ look_for (service page) n (records perm)
      unfolding read read_in area view seen
      in_permanent = simp (le-ltb _ _ h, lt-ltb _ _ i)

      pub permanent_value : (v : List ℕ) → v ≡ value_bytes (look_for (service page) n (records perm)) → v ≡ value_bytes (read c n)
      permanent_value v f = rw in_permanent f

      pub permanent_type : (t : ℕ) → t ≡ value_type (look_for (service page) n (records perm)) → t ≡ value_type (read c n)
      permanent_type t f = rw in_permanent f

      pub permanent_reading : (r : Complaint) → r ≡ worse (unserved (service page) permanently) (undefined_in (look_for (service page) n (records perm))) → r ≡ reading c n
      unfolding reading area view seen
      permanent_reading r g = rw in_permanent (simp (le-ltb _ _ h, lt-ltb _ _ i) g)

    module _ (i : 128 ≤ n) where
      module _ (j : n < 192) where
        in_temporary : read c n ≡ get_or (slots temp) (n - 128) free
        unfolding read read_in area view seen
        in_temporary = simp (le-ltb _ _ h, le-ltb _ _ i, lt-ltb _ _ j)

        module _ (k : ℕ) (e : k ≡ n) where
          pub temporary_value : (v : List ℕ) → v ≡ value_bytes (get_or (slots temp) (k - 128) free) → v ≡ value_bytes (read c n)
          temporary_value v f = rw (in_temporary, ← e) f

          pub temporary_type : (t : ℕ) → t ≡ value_type (get_or (slots temp) (k - 128) free) → t ≡ value_type (read c n)
          temporary_type t f = rw (in_temporary, ← e) f

          pub temporary_reading : (b : Bool) → b ≡ is_held (get_or (slots temp) (k - 128) free) → (r : Complaint) → r ≡ cond b Nothing Undefined → r ≡ reading c n
          unfolding reading unserved area
          temporary_reading b f r g = simp (le-ltb _ _ h, le-ltb _ _ i, lt-ltb _ _ j) (g ∙ rw (f, e, ← in_temporary) (sym (worse_nothing _ ∙ undefined_held (read c n))))

      module _ (j : 192 ≤ n) where
        in_string : read c n ≡ string_of page (element page (n - 192))
        unfolding read read_in area view seen
        in_string = simp (le-ltb _ _ h, le-ltb _ _ i, le-ltb _ _ j)

        module _ (k : ℕ) (e : k ≡ n) where
          pub string_value : (v : List ℕ) → v ≡ value_bytes (string_of page (element page (k - 192))) → v ≡ value_bytes (read c n)
          string_value v f = rw (in_string, ← e) f

          pub string_type : (t : ℕ) → t ≡ value_type (string_of page (element page (k - 192))) → t ≡ value_type (read c n)
          string_type t f = rw (in_string, ← e) f

          pub string_reading : (r : Complaint) → r ≡ undefined_in (string_of page (element page (k - 192))) → r ≡ reading c n
          unfolding reading unserved area
          string_reading r g = simp (le-ltb _ _ h, le-ltb _ _ i, le-ltb _ _ j) (g ∙ rw (e, ← in_string) (sym (worse_nothing _)))

pub ruleset value_laws = (environment_value, permanent_value, temporary_value, string_value)

pub ruleset type_laws = (environment_type, permanent_type, temporary_type, string_type)

pub ruleset reading_laws = (environment_reading, permanent_reading, temporary_reading, string_reading)
