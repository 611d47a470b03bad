-- The code's tables, and the rule of each: every entry is what the rules say, by one computed test.
-- Assumes nothing.
use Prim.Native.Nat.{ℕ, ◌+◌, ◌-◌, ◌*◌, ◌/◌, ◌%◌, ◌≤◌, ◌<◌}
use mathlib.Core.Bool.{false}
use mathlib.Core.List.{List, [], ◌++◌}
use mathlib.Core.Logic.{◌⊎◌, inl, inr}
use mathlib.Core.Path.{◌≡◌, sym, ap, ◌∙◌}
use native.Mathlib.Omega.{arith}
use native.Mathlib.Nat.{le_trans}
use lib.Dec.{T, eqb, ltb, leb, eqb→eq, ltb→lt, leb→le}
use lib.ListN.{length, get_or, get_or-eq_default}
use borrow.Author.Tests.{lt-ltb, le-ltb, ltb-true, eqb-true, eqb-false}
use Rattle.rules.specs.Bytes.{among, hex_to, hex}
use Rattle.rules.specs.Grammar.{grammar, cell_in, cell_of, asks, needs_in, need_of, beyonds, beyond}
use Rattle.leaf.proofs.Cases.{both, tests}
use Rattle.grammar.specs.Columns.{columns, slot_of, column_in, column_of}
use Rattle.grammar.proofs.Every.{every, every_at, every_in, agree, agree_eq}

unfoldable pub cells0 : List ℕ
cells0 =
    hex 32 0x0000000000000000000000000000000000000000000000000000000000000000 ++
    hex 32 0x0000112030405060730084000000000000000000000000000000000000000000 ++
    hex 32 0x0000000000000000230000100000000000000000333333333333333333333333 ++
    hex 32 0x0000000000000000002400000000100000000000000000000000000000000000

unfoldable pub cells4 : List ℕ
cells4 =
    hex 32 0x0000000000000000000000001100200000001100110000000000111100001111 ++
    hex 32 0x0000000000000000000000000000100000000000000000000000000000000000 ++
    hex 32 0x0000000000000000000000000014140000000000000000000000000000000000 ++
    hex 32 0x0000000000000000000000000000000000000000000000000000000000000000

unfoldable pub cells8 : List ℕ
cells8 =
    hex 32 0x0000000000000000000000000000000000142000000000000000000000000000 ++
    hex 32 0x0000000000000000000000000011110000002100000000000000000000000000 ++
    hex 32 0x0000000000000000000000001200000000000000000000000000000000000000 ++
    hex 32 0x0000000000000000000000000010000000000000000000000000000000000000

unfoldable pub cells12 : List ℕ
cells12 =
    hex 32 0x0000000000000000000000000011000000000000000000000000000000000000 ++
    hex 32 0x0000000000000000000000000000000000000000000000000000000000000000 ++
    hex 32 0x0011000000000000000000000000000000000000000000000000000000000000

unfoldable pub asked : List ℕ
asked =
    hex 2 0x0000 ++
    hex 2 0x1184 ++
    hex 2 0x0000 ++
    hex 2 0x2400 ++
    hex 2 0x1100 ++
    hex 2 0x0000 ++
    hex 2 0x1402 ++
    hex 2 0x0000 ++
    hex 2 0x1400 ++
    hex 2 0x1121 ++
    hex 2 0x0100 ++
    hex 2 0x0000 ++
    hex 2 0x1100 ++
    hex 2 0x0000 ++
    hex 2 0x1100

unfoldable pub beyond_bits : List ℕ
beyond_bits =
    hex 32 0x0000000000000000000000000000020000000000040101000000040500010505

abbrev kinds : ℕ
kinds = 15

abbrev pub width : ℕ
width = 32

column_small : (t : ℕ) → t < 256 → column_of t < width
unfolding hex hex_to columns slot_of column_in column_of
column_small t h = ltb→lt (column_of t) width (every_at 256 (λ t. ltb (column_of t) width) tt t h)

column_below : (t : ℕ) → t < 256 → (c : ℕ) → c ≡ column_of t → (c ≡ column_of t) × (c < width)
column_below t h c e = (e, rw e (column_small t h))

module _ (t i : ℕ) (h : t < 256) (e : i ≡ slot_of (t % 128)) where
  module _ (x : get_or columns i 0 < 64) where
    pub column_plain : t < 128 → (r : ℕ) → r ≡ get_or columns i 0 → (r ≡ column_of t) × (r < width)
    unfolding column_in column_of
    column_plain p r f = column_below t h r (f ∙ simp (sym e, lt-ltb _ _ x, lt-ltb _ _ p))

    pub column_unknown : 128 ≤ t → (0 ≡ column_of t) × (0 < width)
    unfolding column_in column_of
    column_unknown p = column_below t h 0 (simp (sym e, lt-ltb _ _ x, le-ltb _ _ p))

  pub column_attributed : 64 ≤ get_or columns i 0 → (r : ℕ) → r ≡ get_or columns i 0 - 64 → (r ≡ column_of t) × (r < width)
  unfolding column_in column_of
  column_attributed x r f = column_below t h r (f ∙ simp (sym e, le-ltb _ _ x))

module _ (t : ℕ) where
  pub slot_low : t < 0x17 → (r : ℕ) → r ≡ t → r ≡ slot_of t
  unfolding slot_of
  slot_low h r e = e ∙ simp (lt-ltb _ _ h)

  module _ (h : 0x17 ≤ t) where
    pub slot_gap : t < 0x40 → 0 ≡ slot_of t
    unfolding slot_of
    slot_gap g = simp (le-ltb _ _ h, lt-ltb _ _ g)

    module _ (g : 0x40 ≤ t) where
      pub slot_high : t < 0x4C → (r : ℕ) → r ≡ t - 0x29 → r ≡ slot_of t
      unfolding slot_of
      slot_high k r e = e ∙ simp (le-ltb _ _ h, le-ltb _ _ g, lt-ltb _ _ k)

      pub slot_none : 0x4C ≤ t → 0 ≡ slot_of t
      unfolding slot_of
      slot_none k = simp (le-ltb _ _ h, le-ltb _ _ g, le-ltb _ _ k)

pub ruleset slot_laws = (slot_low, slot_gap, slot_high, slot_none)

-- a table of rows, for the kinds from one on
rows_right : (from many : ℕ) (rows : List ℕ) → T (every many (λ k. every 256 (λ t. eqb (get_or rows (k * width + column_of t) 0) (cell_of (from + k) t))))
    → (kind t x : ℕ) → from ≤ kind → kind < from + many → kind % 4 ≡ kind - from → t < 256 → x ≡ column_of t → get_or rows (kind % 4 * width + x) 0 ≡ cell_of kind t
rows_right from many rows right kind t x low high e h c =
    let f : from + (kind - from) ≡ kind = omega arith in
    rw (e, c)
    (eqb→eq (get_or rows ((kind - from) * width + column_of t) 0) (cell_of (from + (kind - from)) t)
    (every_in many 256 (λ k t. eqb (get_or rows (k * width + column_of t) 0) (cell_of (from + k) t)) right (kind - from) t (omega arith) h)
    ∙ ap (λ (k : ℕ). cell_of k t) f)

-- a bit of each column, for one kind
bit_right : (bit : ℕ → ℕ) (kind : ℕ) → T (every 256 (λ t. agree (eqb (bit (get_or beyond_bits (column_of t) 0)) 1) (beyond kind t)))
    → (t : ℕ) → t < 256 → eqb (bit (get_or beyond_bits (column_of t) 0)) 1 ≡ beyond kind t
bit_right bit kind right t h =
    agree_eq (eqb (bit (get_or beyond_bits (column_of t) 0)) 1) (beyond kind t)
    (every_at 256 (λ t. agree (eqb (bit (get_or beyond_bits (column_of t) 0)) 1) (beyond kind t)) right t h)

module _ (kind t x : ℕ) (h : t < 256) (c : x ≡ column_of t) where
  pub cell_0 : kind < 4 → get_or cells0 (kind % 4 * width + x) 0 ≡ cell_of kind t
  unfolding hex hex_to columns slot_of column_in column_of cells0 grammar among cell_in cell_of
  cell_0 g = rows_right 0 4 cells0 tt kind t x (omega arith) (omega arith) (omega arith) h c

  pub cell_4 : 4 ≤ kind → kind < 8 → get_or cells4 (kind % 4 * width + x) 0 ≡ cell_of kind t
  unfolding hex hex_to columns slot_of column_in column_of cells4 grammar among cell_in cell_of
  cell_4 l g = rows_right 4 4 cells4 tt kind t x (omega arith) (omega arith) (omega arith) h c

  pub cell_8 : 8 ≤ kind → kind < 12 → get_or cells8 (kind % 4 * width + x) 0 ≡ cell_of kind t
  unfolding hex hex_to columns slot_of column_in column_of cells8 grammar among cell_in cell_of
  cell_8 l g = rows_right 8 4 cells8 tt kind t x (omega arith) (omega arith) (omega arith) h c

  pub cell_12 : 12 ≤ kind → kind < kinds → get_or cells12 (kind % 4 * width + x) 0 ≡ cell_of kind t
  unfolding hex hex_to columns slot_of column_in column_of cells12 grammar among cell_in cell_of
  cell_12 l g = rows_right 12 3 cells12 tt kind t x (omega arith) (omega arith) (omega arith) h c

  pub beyond_unit : kind ≡ 2 → eqb (get_or beyond_bits x 0 % 2) 1 ≡ beyond kind t
  unfolding hex hex_to columns slot_of column_in column_of beyond_bits beyonds among beyond agree
  beyond_unit k = rw (c, k) (bit_right (λ n. n % 2) 2 tt t h)

  pub beyond_modifier : kind ≡ 3 → eqb (get_or beyond_bits x 0 / 2 % 2) 1 ≡ beyond kind t
  unfolding hex hex_to columns slot_of column_in column_of beyond_bits beyonds among beyond agree
  beyond_modifier k = rw (c, k) (bit_right (λ n. n / 2 % 2) 3 tt t h)

  pub beyond_action : kind ≡ 4 → eqb (get_or beyond_bits x 0 / 4) 1 ≡ beyond kind t
  unfolding hex hex_to columns slot_of column_in column_of beyond_bits beyonds among beyond agree
  beyond_action k = rw (c, k) (bit_right (λ n. n / 4) 4 tt t h)

pub cell_none : (kind t : ℕ) → kinds ≤ kind → 0 ≡ cell_of kind t
unfolding cell_of cell_in grammar
cell_none kind t h = sym (simp (get_or-eq_default grammar [] {n = kind} h))

beyond_low : (kind t : ℕ) → kind < 2 → false ≡ beyond kind t
unfolding beyonds beyond among
beyond_low kind t h =
    both (eqb kind 0) (λ e. rw (eqb-true kind 0 e)) (λ e. let d = eqb-false kind 0 e in let f : kind ≡ 1 = omega arith in rw f)

beyond_high : (kind t : ℕ) → 4 < kind → false ≡ beyond kind t
unfolding beyond beyonds among
beyond_high kind t h = sym (simp (get_or-eq_default beyonds [] {n = kind} h))

pub beyond_none : (kind t : ℕ) → (kind ≡ 2 → ⊥) → (kind ≡ 3 → ⊥) → (kind ≡ 4 → ⊥) → false ≡ beyond kind t
beyond_none kind t a b c = both (ltb kind 2) (λ e. beyond_low kind t (ltb-true kind 2 e)) (λ e. beyond_high kind t (omega tests))

pub need_right : (kind k : ℕ) → kind < kinds → k < 2 → get_or asked (kind * 2 + k) 0 ≡ need_of kind k
unfolding hex hex_to asked grammar asks needs_in need_of
need_right kind k g h =
    eqb→eq (get_or asked (kind * 2 + k) 0) (need_of kind k)
    (every_in kinds 2 (λ kind k. eqb (get_or asked (kind * 2 + k) 0) (need_of kind k)) tt kind k g h)

-- past the last kind, and no kind asks more than two
pub need_none : (kind k : ℕ) → ((kind < kinds) × (2 ≤ k)) ⊎ (kinds ≤ kind) → 0 ≡ need_of kind k
unfolding grammar asks needs_in need_of
need_none kind k (inl h) =
    sym (get_or-eq_default (needs_in 1 (get_or grammar kind [])) 0 {n = k}
    (le_trans (leb→le (length (needs_in 1 (get_or grammar kind []))) 2 (every_at kinds (λ kind. leb (length (needs_in 1 (get_or grammar kind []))) 2) tt kind h.0)) h.1))
need_none kind k (inr h) = sym (simp (get_or-eq_default grammar [] {n = kind} h))
