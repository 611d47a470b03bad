-- What a page carries, read from its bytes by a search of its own. Only the premises of isolation use it: no call does.
use Rattle.std.specs.Prelude.{ℕ, zero, suc, ◌+◌, ◌*◌, Bool, true, false, cond, ◌&&◌, ◌||◌, List, [], ◌∷◌, length, take, drop, ltb, eqb}
use Rattle.rules.specs.Card.{Guard, unlocked, locked}

-- the same bytes
unfoldable pub equal : List ℕ → List ℕ → Bool
equal [] [] = true
equal [] (y ∷ ys) = false
equal (x ∷ xs) [] = false
equal (x ∷ xs) (y ∷ ys) = eqb x y && equal xs ys

-- a value and the bytes after it, or too few bytes
pub data Cutting : Type 0 where
  cutting : (value rest : List ℕ) → Cutting
  too_few : Cutting

unfoldable pub cut_after : ℕ → List ℕ → Cutting
cut_after n s = cond (ltb (length s) n) too_few (cutting (take n s) (drop n s))

-- clause 5: a length is one byte up to '7F', or '81' and one byte, or '82' and two
unfoldable pub one_more : List ℕ → Cutting
one_more [] = too_few
one_more (x ∷ s) = cut_after x s

unfoldable pub two_more : List ℕ → Cutting
two_more [] = too_few
two_more (x ∷ []) = too_few
two_more (x ∷ y ∷ s) = cut_after (x * 256 + y) s

unfoldable pub measured : List ℕ → Cutting
measured [] = too_few
measured (b ∷ s) = cond (ltb b 0x80) (cut_after b s) (cond (eqb b 0x81) (one_more s) (cond (eqb b 0x82) (two_more s) too_few))

-- a TLV by its tag and its value
pub record Field : Type 0 where
  pub tag : ℕ
  pub value : List ℕ

abbrev pub field : ℕ → List ℕ → Field
field t v = record { tag = t; value = v }

-- the TLVs that bytes begin with, at most n
unfoldable pub field_then : (List ℕ → List Field) → ℕ → Cutting → List Field
field_then more t (cutting v rest) = field t v ∷ more rest
field_then more t too_few = []

unfoldable pub fields : ℕ → List ℕ → List Field
fields zero s = []
fields (suc n) [] = []
fields (suc n) (t ∷ s) = field_then (λ r. fields n r) t (measured s)

-- 5.3: each attribute byte but the last has its high bit set
unfoldable pub past_attributes : List ℕ → List ℕ
past_attributes [] = []
past_attributes (b ∷ s) = cond (ltb b 0x80) s (past_attributes s)

-- what the first TLV holds after its attributes
unfoldable pub inside : List Field → List ℕ
inside [] = []
inside (f ∷ fs) = cond (ltb f.tag 0x80) f.value (past_attributes f.value)

-- the TLVs that stand in the page itself
unfoldable pub page_fields : List ℕ → List Field
page_fields s = fields (length s) (inside (fields (length s) s))

-- a TLV of a tag whose value, but for its first n bytes, is w
unfoldable pub holding : ℕ → ℕ → List ℕ → List Field → Bool
holding t n w [] = false
holding t n w (f ∷ fs) = (eqb f.tag t && equal (drop n f.value) w) || holding t n w fs

-- 7.1.6: the page has a Service ID, and it is this one
unfoldable pub carries : List ℕ → List ℕ → Bool
carries service s = holding 0x06 0 service (page_fields s)

-- 7.1.3: the page has a Page Unlock, and it is the password that guards; its first byte is ignored
unfoldable pub presents : Guard → List ℕ → Bool
presents unlocked s = false
presents (locked word) s = holding 0x03 1 word (page_fields s)
