-- The ways through the keep rule, in the shape of the needs. Assumes nothing.
use Prim.Native.Nat.{ℕ, ◌≤◌, ◌<◌}
use mathlib.Core.Bool.{Bool, true, false}
use mathlib.Core.List.{List}
use mathlib.Core.Path.{◌≡◌, refl, sym, ◌∙◌}
use native.Mathlib.Omega.{arith}
use lib.ListN.{length, drop}
use Rattle.pour.specs.Pour.{blank}
use Rattle.rules.specs.Bytes.{same, part}
use Rattle.rules.specs.Page.{keeps_all, keep_list, password, unlock, bytes_of}
use Rattle.rules.specs.Keep.{cleared, listed, kept_by, guard_by, unlocks}
use Rattle.slots.specs.Slots.{slots}
use Rattle.word.specs.Word.{word_in, is_marked, laid_marked, guard_of, tidy_guard}
use Rattle.word.proofs.Parts.{guard_blank, guard_laid, blank_guard, laid_guard}
use Rattle.keep.specs.Opens.{opens}
use Rattle.std.specs.Prelude.{Option, None, Some}
use Rattle.rules.specs.declared.Span.{Span}

module _ (s a b : List ℕ) (p : Option Span) (e : p ≡ keep_list s) where
  pub kept_listed : (v : Span) → p ≡ Some v → (n : List ℕ) → n ≡ part s v.from v.end → slots b ≡ listed n 0x80 (slots a) → slots b ≡ kept_by s (keep_list s) (slots a)
  unfolding kept_by
  kept_listed v f n g h = h ∙ rw (g, ← e, f) refl

  module _ (f : p ≡ None) (k : Bool) (g : k ≡ keeps_all s) where
    pub kept_all : k ≡ true → slots a ≡ kept_by s (keep_list s) (slots a)
    unfolding kept_by
    kept_all h = rw (← e, f, ← g, h) refl

    pub kept_none : k ≡ false → slots b ≡ cleared (slots a) → slots b ≡ kept_by s (keep_list s) (slots a)
    unfolding kept_by
    kept_none h c = c ∙ rw (← e, f, ← g, h) refl

pub ruleset kept_laws = (kept_listed, kept_all, kept_none)

module _ (s a b : List ℕ) (p : Option Span) (e : p ≡ password s) where
  pub guard_none : p ≡ None → b ≡ blank 18 → (length (bytes_of s (password s)) ≤ 16 → guard_of b ≡ guard_by s (password s))
  unfolding guard_by
  guard_none f g _ = rw (g, ← e, f) guard_blank

  pub guard_none_tidy : b ≡ blank 18 → (tidy_guard a ≡ true → tidy_guard b ≡ true)
  guard_none_tidy g _ = rw g blank_guard

  module _ (v : Span) (f : p ≡ Some v) (w : List ℕ) (g : w ≡ part s v.from v.end) where
    pub guard_long : 16 < length w → (length (bytes_of s (password s)) ≤ 16 → guard_of a ≡ guard_by s (password s))
    unfolding bytes_of
    guard_long h l = absurd (let z : length w ≤ 16 = rw g (rw (← e, f) at l) in omega arith)

    pub guard_word : length w ≤ 16 → b ≡ laid_marked 18 w → (length (bytes_of s (password s)) ≤ 16 → guard_of b ≡ guard_by s (password s))
    unfolding guard_by
    guard_word h k _ = rw (← e, f, ← g, k) (guard_laid w h)

    pub guard_word_tidy : length w ≤ 16 → b ≡ laid_marked 18 w → (tidy_guard a ≡ true → tidy_guard b ≡ true)
    guard_word_tidy h k _ = rw k (laid_guard w h)

pub ruleset guard_laws = (guard_none, guard_none_tidy, guard_long, guard_word, guard_word_tidy)

module _ (s g : List ℕ) (m : Bool) (e : m ≡ is_marked g) where
  pub open_free : m ≡ false → true ≡ opens s (guard_of g)
  unfolding opens guard_of
  open_free h = sym (rw (← e, h) refl)

  module _ (h : m ≡ true) (p : Option Span) (f : p ≡ unlock s) where
    pub open_none : p ≡ None → false ≡ opens s (guard_of g)
    unfolding opens guard_of unlocks
    open_none k = sym (rw (← e, h, ← f, k) refl)

    pub open_word : (v : Span) → p ≡ Some v → (u : List ℕ) → u ≡ part s v.from v.end → (w : List ℕ) → w ≡ word_in (drop 1 g) → (r : Bool) → r ≡ same w u → r ≡ opens s (guard_of g)
    unfolding opens guard_of unlocks
    open_word v k u l w n r o = o ∙ sym (rw (← e, h, ← f, k, ← l, ← n) refl)

pub ruleset open_laws = (open_free, open_none, open_word)
