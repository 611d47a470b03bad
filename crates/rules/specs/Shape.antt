-- What a tag says of its value: attributes, fixed bytes, and then TLVs, pairs or data (clauses 5.2, 5.3, 7 and 8).
use Rattle.std.specs.Prelude.{ℕ, zero, suc, ◌+◌, ◌-◌, ◌*◌, ◌/◌, ◌%◌, cond, List, [], ◌∷◌, get_or, ltb, leb, eqb, Option, Some, None}
use Rattle.rules.specs.Bytes.{among}
use Rattle.rules.specs.Pieces.{pieces, filled}
use Rattle.rules.specs.Grammar.{Entry, entry, modifiers, actions, units, unjudged, page_kind, unit_kind, modifier_kind, action_kind, system_kind, setting_kind, back_kind, branch_kind, case_kind, reference_kind, exit_kind, length_kind, command_kind}
use Rattle.rules.specs.declared.Body.{Body}
use Rattle.rules.specs.declared.Body.TheVariants.{Inner, Leaf, Short}

-- what follows the fixed bytes
abbrev pub raw : ℕ
raw = 1

abbrev pub inner : ℕ
inner = 2

abbrev pub simple : ℕ
simple = 3

abbrev pub numbered : ℕ
numbered = 4

abbrev pub length_value : ℕ
length_value = 5

abbrev pub substitution : ℕ
substitution = 6

-- a shape in one number: the fixed bytes, what follows them, and the kind of container
abbrev pub shape : ℕ → ℕ → ℕ → List ℕ → Entry
shape kind follows fixed = entry (kind * 64 + follows * 8 + fixed)

-- the shape of each tag of clause 13; an unknown tag holds data and no attributes
unfoldable pub shapes : List Entry
shapes =
    shape page_kind inner 0 (0x01 ∷ 0x81 ∷ []) ∷
    shape unit_kind inner 0 units ∷
    shape unjudged inner 0 (0x10 ∷ 0x13 ∷ 0x93 ∷ 0x16 ∷ 0x4A ∷ 0xCA ∷ []) ∷
    shape case_kind inner 0 (0x11 ∷ []) ∷
    shape reference_kind inner 0 (0x12 ∷ []) ∷
    shape back_kind inner 0 (0x43 ∷ 0xC3 ∷ []) ∷
    shape exit_kind inner 0 (0x45 ∷ 0xC5 ∷ []) ∷
    shape modifier_kind inner 2 modifiers ∷
    shape action_kind inner 1 actions ∷
    shape unjudged inner 1 (0x41 ∷ 0x4B ∷ 0xCB ∷ []) ∷
    shape branch_kind inner 1 (0x44 ∷ []) ∷
    shape length_kind inner 1 (0x48 ∷ []) ∷
    shape unjudged inner 2 (0x47 ∷ 0xC7 ∷ 0x49 ∷ []) ∷
    shape command_kind simple 3 (0x46 ∷ 0xC6 ∷ []) ∷
    shape setting_kind numbered 1 (0x40 ∷ []) ∷
    shape unjudged length_value 0 (0x07 ∷ []) ∷
    shape unjudged substitution 0 (0x0E ∷ 0x8E ∷ 0x0F ∷ 0x8F ∷ 0x14 ∷ []) ∷
    shape unjudged raw 1 (0x03 ∷ []) ∷
    shape unjudged raw 4 (0x42 ∷ []) ∷
    shape unjudged raw 0 (0x02 ∷ 0x04 ∷ 0x05 ∷ 0x06 ∷ 0x0B ∷ 0x0C ∷ 0x0D ∷ 0x15 ∷ 0x95 ∷ []) ∷
    []

-- the number that goes with a tag; 0 where no entry names it
unfoldable pub number_in : List Entry → ℕ → ℕ
number_in [] t = 0
number_in (p ∷ ps) t = cond (among p.tags t) p.number (number_in ps t)

unfoldable pub shape_of : ℕ → ℕ
shape_of t = number_in shapes t

unfoldable pub fixed_of : ℕ → ℕ
fixed_of shape = shape % 8

unfoldable pub follows_of : ℕ → ℕ
follows_of shape = shape / 8 % 8

unfoldable pub kind_of : ℕ → ℕ
kind_of shape = shape / 64

-- 5.3: the place after the attribute bytes, of n bytes that are left. Each but the last has its high bit set.
unfoldable pub attributes_in : ℕ → List ℕ → ℕ → Option ℕ
attributes_in zero s at = None
attributes_in (suc n) s at = cond (ltb (get_or s at 0) 0x80) (Some (at + 1)) (attributes_in n s (at + 1))

-- 5.1: a tag below '80' has no attribute bytes
unfoldable pub attributes_end : List ℕ → ℕ → ℕ → ℕ → Option ℕ
attributes_end s tag start stop = cond (ltb tag 0x80) (Some start) (attributes_in (stop - start) s start)

-- 5.2: the first attribute byte; a missing one counts as 0, and further ones are not looked at
unfoldable pub attribute : List ℕ → ℕ → ℕ → ℕ → ℕ
attribute s tag start stop = cond (ltb tag 0x80) 0 (cond (leb stop start) 0 (get_or s start 0))

-- 8.7: the fixed bytes that the attributes of 'C6' add, the numbers of the result variables
unfoldable pub added : ℕ → ℕ → ℕ
added follows a = cond (eqb follows simple) (a % 2 + a / 4 % 2) 0

-- 7.1.8.4.2: an action with an ID below '20' is a system action, which holds other parts
unfoldable pub kind_at : List ℕ → ℕ → ℕ → ℕ → ℕ
kind_at s kind at stop = cond (eqb kind action_kind) (cond (ltb at stop) (cond (ltb (get_or s at 0) 0x20) system_kind kind) kind) kind

-- what stands after the fixed bytes: they begin at `at`, and the rest at `from`. The numbers of '40' stand before its TLVs, the first at `at`.
unfoldable pub contents : List ℕ → ℕ → ℕ → ℕ → ℕ → ℕ → Body
contents s kind follows at from stop =
    cond (eqb follows raw) Leaf
    (cond (eqb follows numbered) (Inner kind at)
    (cond (ltb follows length_value) (Inner (kind_at s kind at stop) from)
    (cond (filled (pieces (eqb follows substitution) s from stop)) Leaf Short)))

unfoldable pub value_at : List ℕ → ℕ → ℕ → ℕ → ℕ → Body
value_at s shape fixed at stop = cond (ltb (stop - at) fixed) Short (contents s (kind_of shape) (follows_of shape) at (at + fixed) stop)

unfoldable pub after_attributes : List ℕ → ℕ → ℕ → ℕ → Option ℕ → Body
after_attributes s shape a stop (Some p) = value_at s shape (fixed_of shape + added (follows_of shape) a) p stop
after_attributes s shape a stop None = Short

-- 8.7.3: the Simple TLV Indicator '00' inside '46': the result tag, then substitution pairs
abbrev pub indicator_shape : ℕ
indicator_shape = substitution * 8 + 1

-- What the value of a TLV holds, by its tag and the kind of container that it stands in: inside '46' every other tag is a Simple TLV's.
unfoldable pub body_of : List ℕ → ℕ → ℕ → ℕ → ℕ → Body
body_of s within tag start stop =
    cond (eqb within command_kind) (cond (eqb tag 0) (value_at s indicator_shape 1 start stop) Leaf)
    (cond (eqb (shape_of tag) 0) Leaf (after_attributes s (shape_of tag) (attribute s tag start stop) stop (attributes_end s tag start stop)))
