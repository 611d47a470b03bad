-- Isolation (demand 3): what is hidden, which cards differ in nothing else, and which calls do not ask for it.
use Rattle.std.specs.Prelude.{ℕ, ◌≡◌, Bool, true, false, cond, ◌&&◌, ◌||◌, List, [], ◌∷◌, map, length, replicate, ltb, leb}
use Rattle.rules.specs.Carried.{equal, carries, presents}
use Rattle.rules.specs.Loader.{judge}
use Rattle.rules.specs.Card.{Slot, free, Record, none, stored, Guard, unlocked, locked, Card}
use Rattle.rules.specs.IsCard.{is_card, is_accepted}
use Rattle.rules.specs.Calls.{Asked, create, set_environment, load, step, run_up_to, respond, end, read_variable, answers, after_all}

-- a service's record with zeros for its value, as many as there were, and type 0; another service's as it is
unfoldable pub blank_bytes : Bool → List ℕ → List ℕ
blank_bytes hidden bytes = cond hidden (replicate (length bytes) 0) bytes

unfoldable pub blank_type : Bool → ℕ → ℕ
blank_type hidden type = cond hidden 0 type

unfoldable pub blank : List ℕ → Record → Record
blank service none = none
blank service (stored id n type bytes) = stored id n (blank_type (equal id service) type) (blank_bytes (equal id service) bytes)

-- a service's record, or none
unfoldable pub only : List ℕ → Record → Record
only service none = none
only service (stored id n type bytes) = cond (equal id service) (stored id n type bytes) none

-- the records of a service, each in its place
unfoldable pub records_of : List ℕ → Card → List Record
records_of service c = map (only service) c.permanent

-- the temporary variables that no password guards
unfoldable pub unguarded : Guard → List Slot → List Slot
unguarded unlocked xs = xs
unguarded (locked word) xs = replicate (length xs) free

-- Two cards at rest, alike but for the values of one service and the guarded variables.
pub record Alike (service : List ℕ) (c d : Card) : Type 0 where
  pub card_c : is_card c ≡ true
  pub card_d : is_card d ≡ true
  pub rest_c : c.run.page ≡ []
  pub rest_d : d.run.page ≡ []
  pub environment : c.environment ≡ d.environment
  pub permanent : map (blank service) c.permanent ≡ map (blank service) d.permanent
  pub temporary : unguarded c.guard c.temporary ≡ unguarded d.guard d.temporary
  pub history : c.history ≡ d.history
  pub wanted : c.wanted ≡ d.wanted

-- what a call is
unfoldable pub creates : Asked → Bool
creates create = true
creates (set_environment n value) = false
creates (load s) = false
creates (step buffer) = false
creates (run_up_to n buffer) = false
creates (respond response buffer) = false
creates end = false
creates (read_variable n id) = false

-- a read of one of the service's variables: '40' to '7F' are permanent
unfoldable pub reads : List ℕ → Asked → Bool
reads service create = false
reads service (set_environment n value) = false
reads service (load s) = false
reads service (step buffer) = false
reads service (run_up_to n buffer) = false
reads service (respond response buffer) = false
reads service end = false
reads service (read_variable n id) = leb 0x40 n && ltb n 0x80 && equal id service

-- a read of a temporary variable, '80' to 'BF'
unfoldable pub reads_temporary : Asked → Bool
reads_temporary create = false
reads_temporary (set_environment n value) = false
reads_temporary (load s) = false
reads_temporary (step buffer) = false
reads_temporary (run_up_to n buffer) = false
reads_temporary (respond response buffer) = false
reads_temporary end = false
reads_temporary (read_variable n id) = leb 0x80 n && ltb n 0xC0

-- the page that a call loads; no bytes where it loads none
unfoldable pub page_in : Asked → List ℕ
page_in create = []
page_in (set_environment n value) = []
page_in (load s) = s
page_in (step buffer) = []
page_in (run_up_to n buffer) = []
page_in (respond response buffer) = []
page_in end = []
page_in (read_variable n id) = []

-- one of the calls is such
unfoldable pub some : (Asked → Bool) → List Asked → Bool
some test [] = false
some test (k ∷ ks) = test k || some test ks

-- the loader accepts the page that a call loads
unfoldable pub loads_accepted : Asked → Bool
loads_accepted k = is_accepted (judge (page_in k))

-- the calls before the first accepted page, and that page
unfoldable pub before : List Asked → List Asked
before [] = []
before (k ∷ ks) = cond (loads_accepted k) [] (k ∷ before ks)

unfoldable pub first_page : List Asked → List ℕ
first_page [] = []
first_page (k ∷ ks) = cond (loads_accepted k) (page_in k) (first_page ks)

-- Calls that do not ask for what is hidden.
pub record Unasked (service : List ℕ) (c d : Card) (ks : List Asked) : Type 0 where
  pub uncreated : some creates ks ≡ false
  pub unread : some (reads service) ks ≡ false
  pub untouched : some reads_temporary (before ks) ≡ false
  pub uncarried : some (λ k. carries service (page_in k)) ks ≡ false
  pub shut_c : presents c.guard (first_page ks) ≡ false
  pub shut_d : presents d.guard (first_page ks) ≡ false

-- What follows: the same answers, and the service's records end as they began.
pub record Isolated (service : List ℕ) (c d : Card) (ks : List Asked) : Type 0 where
  pub same_answers : answers ks c ≡ answers ks d
  pub kept_c : records_of service (after_all ks c) ≡ records_of service c
  pub kept_d : records_of service (after_all ks d) ≡ records_of service d
