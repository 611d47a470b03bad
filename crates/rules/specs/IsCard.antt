-- What number 35 tests: that the state handed in is a card.
use Rattle.std.specs.Prelude.{ℕ, ◌+◌, ◌-◌, Bool, true, false, cond, List, [], ◌∷◌, length, ltb, leb, eqb, Option, Some, None, Result, Ok, Err}
use Rattle.rules.specs.Page.{unit_count, is_place}
use Rattle.rules.specs.Reference.{mark}
use Rattle.rules.specs.Loader.{judge}
use Rattle.rules.specs.Card.{Slot, free, held, Record, none, stored, Guard, unlocked, locked, Hand, empty, by_code, History, Card, slots, is_empty}
use Rattle.rules.specs.Store.{is_record, room, record_room, longest, room_limit}
use Rattle.rules.specs.Trail.{depth}
use Rattle.rules.specs.Command.{execute_of, result_complaint}
use Rattle.rules.specs.Step.{ByteCode, setting_variables, going_back, branching, exiting, executing, getting_length, unknown, byte_code, here}
use Rattle.rules.specs.declared.Complaint.{Complaint}
use Rattle.rules.specs.declared.Complaint.TheVariants.{Nothing, Undefined, Secured, Misused}
use Rattle.rules.specs.declared.Tlv.{Tlv}
use Rattle.rules.specs.declared.Rejection.{Rejection}

unfoldable pub within : ℕ → ℕ → ℕ → Bool
within least most n = cond (leb least n) (leb n most) false

-- a value: a type from 0 to 4, at most 255 bytes
unfoldable pub value_fine : ℕ → List ℕ → Bool
value_fine type bytes = cond (ltb type 5) (leb (length bytes) longest) false

unfoldable pub slot_fine : Slot → Bool
slot_fine free = true
slot_fine (held type bytes) = value_fine type bytes

unfoldable pub slots_fine : List Slot → Bool
slots_fine [] = true
slots_fine (x ∷ xs) = cond (slot_fine x) (slots_fine xs) false

-- a permanent record: a number of its area, an ID of 1 to 16 bytes
unfoldable pub record_fine : Record → Bool
record_fine none = true
record_fine (stored id n type bytes) = cond (within 0x40 0x7F n) (cond (within 1 16 (length id)) (value_fine type bytes) false) false

-- a record with the number and ID of another stands in a list
unfoldable pub repeats : Record → List Record → Bool
repeats none rs = false
repeats (stored id n type bytes) [] = false
repeats (stored id n type bytes) (r ∷ rs) = cond (is_record id n r) true (repeats (stored id n type bytes) rs)

unfoldable pub records_fine : List Record → Bool
records_fine [] = true
records_fine (r ∷ rs) = cond (record_fine r) (cond (repeats r rs) false (records_fine rs)) false

-- an entry of the history: 1 to 32 bytes, '23', and 1 to 32 bytes without '23'
unfoldable pub entry_by : ℕ → Option ℕ → Bool
entry_by size (Some n) = cond (within 1 32 n) (within 1 32 (size - (n + 1))) false
entry_by size None = false

unfoldable pub entries_fine : List (List ℕ) → Bool
entries_fine [] = true
entries_fine (e ∷ es) = cond (entry_by (length e) (mark e)) (entries_fine es) false

unfoldable pub history_fine : History → Bool
history_fine h = cond (leb (length h.entries) depth) (cond (leb h.pointer (length h.entries)) (entries_fine h.entries) false) false

unfoldable pub guard_fine : Guard → Bool
guard_fine unlocked = true
guard_fine (locked word) = leb (length word) 16

unfoldable pub is_open : Guard → Bool
is_open unlocked = true
is_open (locked word) = false

unfoldable pub is_accepted : Result (Unit {0}) Rejection → Bool
is_accepted (Ok u) = true
is_accepted (Err e) = false

unfoldable pub complaint_free : Complaint → Bool
complaint_free Nothing = true
complaint_free Undefined = false
complaint_free Secured = false
complaint_free Misused = false

-- a byte code that sends a command, whose result variables the page may write: any other would never have sent
unfoldable pub sends_by : Card → ℕ → ℕ → ℕ → ByteCode → Bool
sends_by c tag start stop setting_variables = false
sends_by c tag start stop going_back = false
sends_by c tag start stop branching = false
sends_by c tag start stop exiting = false
sends_by c tag start stop executing = complaint_free (result_complaint c (execute_of c.run.page tag start stop))
sends_by c tag start stop getting_length = false
sends_by c tag start stop unknown = false

unfoldable pub sends : Card → Option Tlv → Bool
sends c (Some h) = sends_by c h.tag h.start h.stop (byte_code h.tag)
sends c None = false

unfoldable pub hand_fine : Card → Hand → Bool
hand_fine c empty = true
hand_fine c (by_code b) = cond (within 1 255 (length b)) (sends c (here c)) false

unfoldable pub wanted_fine : List ℕ → Bool
wanted_fine [] = true
wanted_fine (x ∷ xs) = within 2 65 (length (x ∷ xs))

-- at rest nothing of a run is left; a running page is one that the loader accepts, at a place of one of its units
unfoldable pub run_fine : Card → List ℕ → Bool
run_fine c [] = cond (eqb c.run.unit 0) (cond (eqb c.run.place 0) (cond (is_empty c.run.hand) (wanted_fine c.wanted) false) false) false
run_fine c (x ∷ xs) =
    cond (is_open c.guard)
    (cond (eqb (length c.wanted) 0)
    (cond (is_accepted (judge (x ∷ xs)))
    (cond (ltb c.run.unit (unit_count (x ∷ xs)))
    (cond (is_place (x ∷ xs) c.run.unit c.run.place) (hand_fine c c.run.hand) false) false) false) false) false

unfoldable pub areas_fine : Card → Bool
areas_fine c =
    cond (eqb (length c.environment) slots)
    (cond (eqb (length c.temporary) slots)
    (cond (eqb (length c.permanent) slots)
    (cond (slots_fine c.environment)
    (cond (slots_fine c.temporary)
    (cond (leb (room c.temporary) room_limit)
    (cond (records_fine c.permanent) (leb (record_room c.permanent) room_limit) false) false) false) false) false) false) false

unfoldable pub is_card : Card → Bool
is_card c =
    cond (areas_fine c) (cond (history_fine c.history) (cond (guard_fine c.guard) (run_fine c c.run.page) false) false) false
