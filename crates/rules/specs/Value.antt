-- Values put together from pairs (6.3, method 1) and from Variable Identifier Lists (7.4, 8.1).
use Rattle.std.specs.Prelude.{ℕ, ◌/◌, ◌%◌, Bool, true, cond, List, [], ◌∷◌, ◌++◌, ltb, eqb}
use Rattle.rules.specs.Bytes.{part, among}
use Rattle.rules.specs.Pieces.{Pieces, full, cut, text, variable, pieces, named}
use Rattle.rules.specs.Shape.{attribute}
use Rattle.rules.specs.Page.{type_of, page_type, content_at}
use Rattle.rules.specs.Card.{Card}
use Rattle.rules.specs.Store.{read, reading, worse, value_bytes, value_type}
use Rattle.rules.specs.declared.Complaint.{Complaint}
use Rattle.rules.specs.declared.Complaint.TheVariants.{Nothing, Undefined, Secured, Misused}

-- the pieces of an Inline Value, or the variables of a list
unfoldable pub pieces_of : List ℕ → ℕ → ℕ → ℕ → Pieces
pieces_of s tag start stop = cond (eqb tag 0x0D) (named (part s start stop)) (pieces true s (content_at s tag start stop) stop)

-- the worst complaint about the variables that are read; a number in `known` counts as defined
unfoldable pub defined : Bool → Complaint → Complaint
defined known Nothing = Nothing
defined known Undefined = cond known Nothing Undefined
defined known Secured = Secured
defined known Misused = Misused

unfoldable pub complaint : Card → List ℕ → Pieces → Complaint
complaint c known full = Nothing
complaint c known cut = Nothing
complaint c known (text from to rest) = complaint c known rest
complaint c known (variable n rest) = worse (defined (among known n) (reading c n)) (complaint c known rest)

-- method 1: bytes as they stand, and the contents of the variables
unfoldable pub joined : Card → Pieces → List ℕ
joined c full = []
joined c cut = []
joined c (text from to rest) = part c.run.page from to ++ joined c rest
joined c (variable n rest) = value_bytes (read c n) ++ joined c rest

-- 8.1: the type that all variables of a list share, else unknown
unfoldable pub shared_with : ℕ → Card → Pieces → ℕ
shared_with type c full = type
shared_with type c cut = type
shared_with type c (text from to rest) = shared_with type c rest
shared_with type c (variable n rest) = cond (eqb (value_type (read c n)) type) (shared_with type c rest) 0

unfoldable pub shared : Card → Pieces → ℕ
shared c full = 0
shared c cut = 0
shared c (text from to rest) = shared c rest
shared c (variable n rest) = shared_with (value_type (read c n)) c rest

-- 7.5: an Inline Value has its own type (bits 1 to 3), or the page's where that is unknown
unfoldable pub inline_type : List ℕ → ℕ → ℕ → ℕ → ℕ
inline_type s tag start stop =
    cond (eqb (type_of (attribute s tag start stop % 8)) 0) (page_type s) (type_of (attribute s tag start stop % 8))

unfoldable pub type_for : Card → ℕ → ℕ → ℕ → ℕ
type_for c tag start stop =
    cond (eqb tag 0x0D) (shared c (named (part c.run.page start stop))) (inline_type c.run.page tag start stop)

-- a length in the shortest BER form (ISO/IEC 7816-6)
unfoldable pub shortest : ℕ → List ℕ
shortest n =
    cond (ltb n 128) (n ∷ [])
    (cond (ltb n 256) (0x81 ∷ n ∷ [])
    (cond (ltb n 65536) (0x82 ∷ n / 256 ∷ n % 256 ∷ [])
    (0x83 ∷ n / 65536 % 256 ∷ n / 256 % 256 ∷ n % 256 ∷ [])))
