-- Which TLVs may stand in what, in which order and how often (class 4), and which tags are beyond the base (class 7): data, and what is read off it.
use Rattle.std.specs.Prelude.{ℕ, ◌+◌, ◌*◌, ◌%◌, Bool, true, false, cond, List, [], ◌∷◌, ◌++◌, get_or, eqb, ltb}
use Rattle.rules.specs.Bytes.{among}
use Rattle.rules.specs.Tlvs.{Tlvs, done, past, tlv}

-- one of some tags, and a number that goes with them: here how often it may stand
pub record Entry : Type 0 where
  pub tags : List ℕ
  pub number : ℕ

abbrev pub entry : ℕ → List ℕ → Entry
entry n ts = record { tags = ts; number = n }

-- at most once
abbrev pub may : List ℕ → Entry
may = entry 0

-- just once
abbrev pub must : List ℕ → Entry
must = entry 1

-- just once, and only an empty container lacks it
abbrev pub sole : List ℕ → Entry
sole = entry 2

-- any number
abbrev pub any : List ℕ → Entry
any = entry 3

-- one or more
abbrev pub some : List ℕ → Entry
some = entry 4

-- no TLV: each number has its TLV, so that the row fills the container
abbrev pub paired : Entry
paired = entry 5 []

-- the byte codes of clause 13: those that may be an action too (7.1.8.4.3), and the others
abbrev pub action_codes : List ℕ
action_codes = 0x40 ∷ 0x46 ∷ 0xC6 ∷ 0x47 ∷ 0xC7 ∷ 0x4A ∷ 0xCA ∷ 0x4B ∷ 0xCB ∷ []

abbrev pub other_codes : List ℕ
other_codes = 0x41 ∷ 0x42 ∷ 0x43 ∷ 0xC3 ∷ 0x44 ∷ 0x45 ∷ 0xC5 ∷ 0x48 ∷ 0x49 ∷ []

abbrev pub modifiers : List ℕ
modifiers = 0x08 ∷ 0x88 ∷ []

abbrev pub actions : List ℕ
actions = 0x09 ∷ 0x89 ∷ []

abbrev pub units : List ℕ
units = 0x0A ∷ 0x8A ∷ []

abbrev pub texts : List ℕ
texts = 0x0E ∷ 0x8E ∷ []

abbrev pub values : List ℕ
values = 0x0D ∷ texts

-- the kinds of containers: the places of their rows in `grammar`
abbrev pub unjudged : ℕ
unjudged = 0

abbrev pub page_kind : ℕ
page_kind = 1

abbrev pub unit_kind : ℕ
unit_kind = 2

abbrev pub modifier_kind : ℕ
modifier_kind = 3

abbrev pub action_kind : ℕ
action_kind = 4

abbrev pub system_kind : ℕ
system_kind = 5

abbrev pub setting_kind : ℕ
setting_kind = 6

abbrev pub back_kind : ℕ
back_kind = 7

abbrev pub branch_kind : ℕ
branch_kind = 8

abbrev pub case_kind : ℕ
case_kind = 9

abbrev pub reference_kind : ℕ
reference_kind = 10

abbrev pub exit_kind : ℕ
exit_kind = 11

abbrev pub length_kind : ℕ
length_kind = 12

abbrev pub command_kind : ℕ
command_kind = 13

abbrev pub whole_kind : ℕ
whole_kind = 14

-- the parts of each kind of container, in their order (clauses 7.1, 7.2, 7.1.8, 7.1.8.4, 8.1, 8.4, 8.5, 7.9, 8.6, 8.9)
unfoldable pub grammar : List (List Entry)
grammar =
    [] ∷
    (must (0x02 ∷ []) ∷ may (0x03 ∷ []) ∷ may (0x04 ∷ []) ∷ may (0x05 ∷ []) ∷ may (0x06 ∷ []) ∷ may (0x07 ∷ []) ∷ any modifiers ∷ some units ∷ []) ∷
    (may (0x0B ∷ []) ∷ any modifiers ∷ any (action_codes ++ other_codes) ∷ []) ∷
    (may texts ∷ some actions ∷ []) ∷
    (must (0x0C ∷ 0x12 ∷ action_codes) ∷ may texts ∷ []) ∷
    (may texts ∷ []) ∷
    (some values ∷ paired ∷ []) ∷
    [] ∷
    (some (0x11 ∷ []) ∷ may (0x12 ∷ []) ∷ []) ∷
    (must values ∷ must (0x12 ∷ []) ∷ []) ∷
    (sole (0x0C ∷ []) ∷ []) ∷
    (may (0x0D ∷ []) ∷ []) ∷
    (must (0x0D ∷ []) ∷ []) ∷
    [] ∷
    (must (0x01 ∷ 0x81 ∷ []) ∷ []) ∷
    []

-- where a tag stands among the parts: sixteen times its place, counted from 1, and how often; 0 where no part names it
unfoldable pub cell_in : ℕ → List Entry → ℕ → ℕ
cell_in place [] t = 0
cell_in place (p ∷ ps) t = cond (among p.tags t) (place * 16 + p.number) (cell_in (place + 1) ps t)

unfoldable pub cell_of : ℕ → ℕ → ℕ
cell_of kind t = cell_in 1 (get_or grammar kind []) t

-- what a part asks of the whole row: 0 nothing, 1 a TLV at all, 2 that the row fills the container, else that its cell stands somewhere
unfoldable pub asks : ℕ → ℕ → ℕ
asks place often =
    cond (eqb often 1) (place * 16 + 1) (cond (eqb often 2) 1 (cond (eqb often 4) (place * 16 + 4) (cond (eqb often 5) 2 0)))

unfoldable pub needs_in : ℕ → List Entry → List ℕ
needs_in place [] = []
needs_in place (p ∷ ps) = cond (eqb (asks place p.number) 0) (needs_in (place + 1) ps) (asks place p.number ∷ needs_in (place + 1) ps)

-- what a kind asks, first and second: none asks more
unfoldable pub need_of : ℕ → ℕ → ℕ
need_of kind k = get_or (needs_in 1 (get_or grammar kind [])) k 0

-- the bytes before each TLV: the numbers of '40'
unfoldable pub gap_of : ℕ → ℕ
gap_of kind = cond (eqb kind setting_kind) 1 0

-- a tag that no part names, or of an earlier part than the last one, or again where one may stand
unfoldable pub misplaced : ℕ → ℕ → Bool
misplaced last cell = cond (eqb cell 0) true (cond (ltb cell last) true (cond (eqb cell last) (ltb (cell % 16) 3) false))

-- the row has what is asked
unfoldable pub met_in : ℕ → ℕ → ℕ → Tlvs → Bool
met_in kind need end (done p) = cond (eqb need 2) (eqb p end) false
met_in kind need end (past p) = true
met_in kind need end (tlv t at start stop rest) =
    cond (eqb need 1) true (cond (eqb (cell_of kind t) need) true (met_in kind need end rest))

unfoldable pub met : ℕ → ℕ → ℕ → Tlvs → Bool
met kind need end row = cond (eqb need 0) true (met_in kind need end row)

-- a part that must stand stands nowhere
unfoldable pub lacks : ℕ → ℕ → Tlvs → Bool
lacks kind end row = cond (met kind (need_of kind 0) end row) (cond (met kind (need_of kind 1) end row) false true) true

-- Class 7 by tag: what is beyond the base in a container, by its kind. Byte codes in a unit, the text of a modifier, byte codes as an action.
unfoldable pub beyonds : List (List ℕ)
beyonds =
    [] ∷
    [] ∷
    (0x41 ∷ 0x42 ∷ 0x47 ∷ 0xC7 ∷ 0x49 ∷ 0x4A ∷ 0xCA ∷ 0x4B ∷ 0xCB ∷ []) ∷
    texts ∷
    action_codes ∷
    []

unfoldable pub beyond : ℕ → ℕ → Bool
beyond kind t = among (get_or beyonds kind []) t
