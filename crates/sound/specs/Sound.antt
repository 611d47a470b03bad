-- What number 35 asks of a state, part by part of its arrays.
use Rattle.std.specs.Prelude.{ℕ, Bool, true, false, cond, List, [], ◌∷◌, length, ltb, leb, eqb, Option, Some, None}
use Rattle.rules.specs.Tlvs.{plain}
use Rattle.rules.specs.Page.{unit_count, is_place, code_at}
use Rattle.rules.specs.Loader.{judge}
use Rattle.rules.specs.Card.{Hand, empty, by_code, is_empty}
use Rattle.rules.specs.Store.{room, record_room, room_limit}
use Rattle.rules.specs.Command.{execute_of}
use Rattle.rules.specs.IsCard.{within, is_open, is_accepted, complaint_free, wanted_fine}
use Rattle.slots.specs.Slots.{slots, sound_slots}
use Rattle.records.specs.Records.{records, sound_records}
use Rattle.word.specs.Word.{word_in, guard_of, hand_of, tidy_guard, tidy_hand, tidy_wanted}
use Rattle.execute.specs.Told.{result_told}
use Rattle.rules.specs.declared.Tlv.{Tlv}

-- the areas, and the room that they take
unfoldable pub sound_areas : List ℕ → List ℕ → List ℕ → Bool
sound_areas environment temporary permanent =
    cond (sound_slots environment)
    (cond (sound_slots temporary)
    (cond (leb (room (slots temporary)) room_limit)
    (cond (sound_records permanent) (leb (record_room (records permanent)) room_limit) false) false) false) false

-- the guard, the command in hand and the reference of the page wanted: their canonical form
unfoldable pub sound_words : List ℕ → List ℕ → List ℕ → Bool
sound_words guard hand wanted = cond (tidy_guard guard) (cond (tidy_hand hand) (tidy_wanted wanted) false) false

-- at rest nothing of a run is left
unfoldable pub sound_rest : List ℕ → List ℕ → ℕ → ℕ → Bool
sound_rest hand wanted unit place =
    cond (eqb unit 0) (cond (eqb place 0) (cond (is_empty (hand_of hand)) (wanted_fine (word_in wanted)) false) false) false

-- a page that the loader accepts, at a place of one of its units
unfoldable pub sound_place : List ℕ → ℕ → ℕ → Bool
sound_place page unit place = cond (is_accepted (judge page)) (cond (ltb unit (unit_count page)) (is_place page unit place) false) false

-- a byte code that sends a command, whose result variables the page may write
unfoldable pub sends_in : List ℕ → Option Tlv → Bool
sends_in page (Some h) = cond (eqb (plain h.tag) 0x46) (complaint_free (result_told page (execute_of page h.tag h.start h.stop))) false
sends_in page None = false

-- the command in hand
unfoldable pub sound_hand : List ℕ → ℕ → ℕ → Hand → Bool
sound_hand page unit place empty = true
sound_hand page unit place (by_code b) = cond (within 1 255 (length b)) (sends_in page (code_at page unit place)) false

-- at rest, or on a page
unfoldable pub sound_run : List ℕ → List ℕ → List ℕ → List ℕ → ℕ → ℕ → Bool
sound_run [] guard hand wanted unit place = sound_rest hand wanted unit place
sound_run (x ∷ xs) guard hand wanted unit place =
    cond (is_open (guard_of guard))
    (cond (eqb (length (word_in wanted)) 0)
    (cond (sound_place (x ∷ xs) unit place) (sound_hand (x ∷ xs) unit place (hand_of hand)) false) false) false
