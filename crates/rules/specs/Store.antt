-- Variables (clause 6): who may read and write which, where they are kept, and the room that they take.
use Rattle.std.specs.Prelude.{ℕ, ◌+◌, ◌-◌, Bool, true, false, cond, List, [], ◌∷◌, length, get_or, set, ltb, eqb, Option, Some, None}
use Rattle.rules.specs.Bytes.{same, part}
use Rattle.rules.specs.Page.{service, page_type, element}
use Rattle.rules.specs.Card.{Slot, free, held, Record, none, stored, Card, with_temporary, with_permanent}
use Rattle.rules.specs.declared.Complaint.{Complaint}
use Rattle.rules.specs.declared.Complaint.TheVariants.{Nothing, Undefined, Secured, Misused}
use Rattle.rules.specs.declared.Span.{Span}

-- 6.1: the two high bits of a number name its area
pub data Area : Type 0 where
  environmental : Area
  permanently : Area
  temporarily : Area
  string : Area

unfoldable pub area : ℕ → Area
area n = cond (ltb n 0x40) environmental (cond (ltb n 0x80) permanently (cond (ltb n 0xC0) temporarily string))

-- 6.1.2: a record is known by its number and its Service ID together
unfoldable pub is_record : List ℕ → ℕ → Record → Bool
is_record id n none = false
is_record id n (stored i m type bytes) = cond (eqb m n) (same i id) false

-- the place of a record, counted from k; past the last where there is none
unfoldable pub record_from : ℕ → List ℕ → ℕ → List Record → ℕ
record_from k id n [] = k
record_from k id n (r ∷ rs) = cond (is_record id n r) k (record_from (k + 1) id n rs)

unfoldable pub is_free : Record → Bool
is_free none = true
is_free (stored i m type bytes) = false

unfoldable pub free_from : ℕ → List Record → ℕ
free_from k [] = k
free_from k (r ∷ rs) = cond (is_free r) k (free_from (k + 1) rs)

-- where a record is to be written: its own place, or the first free one
unfoldable pub place_for : List ℕ → ℕ → List Record → ℕ
place_for id n rs = cond (ltb (record_from 0 id n rs) (length rs)) (record_from 0 id n rs) (free_from 0 rs)

unfoldable pub value_of : Record → Slot
value_of none = free
value_of (stored i m type bytes) = held type bytes

-- what is stored under an ID and a number
unfoldable pub look_for : List ℕ → ℕ → List Record → Slot
look_for id n rs = value_of (get_or rs (record_from 0 id n rs) none)

-- 6.1.4: an element of the string pool has the page's type
unfoldable pub string_of : List ℕ → Option Span → Slot
string_of s (Some p) = held (page_type s) (part s p.from p.end)
string_of s None = free

unfoldable pub read_in : Area → Card → ℕ → Slot
read_in environmental c n = get_or c.environment n free
read_in permanently c n = look_for (service c.run.page) n c.permanent
read_in temporarily c n = get_or c.temporary (n - 0x80) free
read_in string c n = string_of c.run.page (element c.run.page (n - 0xC0))

-- what a number names for the running page
unfoldable pub read : Card → ℕ → Slot
read c n = read_in (area n) c n

unfoldable pub value_bytes : Slot → List ℕ
value_bytes free = []
value_bytes (held type bytes) = bytes

unfoldable pub value_type : Slot → ℕ
value_type free = 0
value_type (held type bytes) = type

-- a page without Service ID may not touch a permanent variable
unfoldable pub unserved : List ℕ → Area → Complaint
unserved id environmental = Nothing
unserved id permanently = cond (eqb (length id) 0) Secured Nothing
unserved id temporarily = Nothing
unserved id string = Nothing

unfoldable pub undefined_in : Slot → Complaint
undefined_in free = Undefined
undefined_in (held type bytes) = Nothing

unfoldable pub rank : Complaint → ℕ
rank Nothing = 0
rank Undefined = 1
rank Secured = 2
rank Misused = 3

-- the order of refusals in a step: 16, 19, 17
unfoldable pub worse : Complaint → Complaint → Complaint
worse a b = cond (ltb (rank a) (rank b)) b a

-- 19 and 17 for a number that is read
unfoldable pub reading : Card → ℕ → Complaint
reading c n = worse (unserved (service c.run.page) (area n)) (undefined_in (read c n))

-- 16 and 19 for a number that is written
unfoldable pub writing_in : List ℕ → Area → Complaint
writing_in id environmental = Secured
writing_in id permanently = cond (eqb (length id) 0) Secured Nothing
writing_in id temporarily = Nothing
writing_in id string = Misused

unfoldable pub writing : Card → ℕ → Complaint
writing c n = writing_in (service c.run.page) (area n)

-- the room that values take: the sum of their lengths
unfoldable pub room : List Slot → ℕ
room [] = 0
room (x ∷ xs) = length (value_bytes x) + room xs

unfoldable pub record_room : List Record → ℕ
record_room [] = 0
record_room (r ∷ rs) = length (value_bytes (value_of r)) + record_room rs

abbrev pub longest : ℕ
longest = 255

abbrev pub room_limit : ℕ
room_limit = 2048

-- a write: the card after it, or no memory for it
pub data Written : Type 0 where
  wrote : Card → Written
  no_room : Written

unfoldable pub write_temporary : Card → ℕ → Slot → Written
write_temporary c k x =
    cond (ltb room_limit (room (set c.temporary k x))) no_room (wrote (with_temporary c (set c.temporary k x)))

unfoldable pub write_permanent : Card → ℕ → Record → Written
write_permanent c k x =
    cond (ltb k (length c.permanent))
    (cond (ltb room_limit (record_room (set c.permanent k x))) no_room (wrote (with_permanent c (set c.permanent k x))))
    no_room

unfoldable pub write_in : Area → Card → ℕ → ℕ → List ℕ → Written
write_in environmental c n type bytes = wrote c
write_in permanently c n type bytes =
    write_permanent c (place_for (service c.run.page) n c.permanent) (stored (service c.run.page) n type bytes)
write_in temporarily c n type bytes = write_temporary c (n - 0x80) (held type bytes)
write_in string c n type bytes = wrote c

-- 18: the value, the record count or the room would pass its limit. A replaced value gives back its old length first.
unfoldable pub write : Card → ℕ → ℕ → List ℕ → Written
write c n type bytes = cond (ltb longest (length bytes)) no_room (write_in (area n) c n type bytes)
