-- The host's calls: what each answers, the card after it, and every byte of a lent buffer.
use Rattle.std.specs.Prelude.{ℕ, zero, suc, ◌+◌, ◌-◌, Bool, true, false, cond, List, [], ◌∷◌, ◌++◌, length, get_or, set, drop, replicate, ltb, leb, eqb, Option, Some, None, Result, Ok, Err}
use Rattle.rules.specs.Numbers.{number, loaded_number, outcome_number, told_number}
use Rattle.rules.specs.Loader.{judge}
use Rattle.rules.specs.Page.{element}
use Rattle.rules.specs.Card.{Slot, free, held, Guard, unlocked, locked, Card, created, runs, is_empty, in_hand, with_environment}
use Rattle.rules.specs.Store.{Area, environmental, permanently, temporarily, string, area, look_for, string_of, longest}
use Rattle.rules.specs.Keep.{rested, started}
use Rattle.rules.specs.Command.{reply}
use Rattle.rules.specs.Step.{Effect, effect, here, stepped, answered}
use Rattle.rules.specs.IsCard.{within, is_card}
use Rattle.rules.specs.declared.Refusal.{Refusal}
use Rattle.rules.specs.declared.Refusal.TheVariants.{Variable, Memory, Security, Buffer, Call, Response, State}
use Rattle.rules.specs.declared.Outcome.{Outcome}
use Rattle.rules.specs.declared.Outcome.TheVariants.{On, Command, Page, Ended, Refused}
use Rattle.rules.specs.declared.Stepped.{Stepped}
use Rattle.rules.specs.declared.Ran.{Ran}
use Rattle.rules.specs.declared.Shown.{Shown}
use Rattle.rules.specs.declared.Tlv.{Tlv}
use Rattle.rules.specs.declared.Rejection.{Rejection}
use Rattle.rules.specs.declared.LoadError.{LoadError}
use Rattle.rules.specs.Built.{faulty_at, unloaded}
use Rattle.rules.specs.declared.Reply.{Reply}

-- A call with what the host lends. A step, a run and a response have a command buffer; an empty Service ID stands for none.
pub data Asked : Type 0 where
  create : Asked
  set_environment : (number : ℕ) (value : List ℕ) → Asked
  load : (page : List ℕ) → Asked
  step : (buffer : List ℕ) → Asked
  run_up_to : (most : ℕ) (buffer : List ℕ) → Asked
  respond : (response buffer : List ℕ) → Asked
  end : Asked
  read_variable : (number : ℕ) (service : List ℕ) → Asked

-- An answer, with the command buffer after the call and the reference of a page wanted where there are such.
pub data Answer : Type 0 where
  told : Result (Unit {0}) Refusal → Answer
  loaded : Result (Unit {0}) LoadError → Answer
  taken : Stepped → (buffer reference : List ℕ) → Answer
  ran : Ran → (buffer reference : List ℕ) → Answer
  responded : Outcome → (buffer reference : List ℕ) → Answer
  shown : Shown → Answer

-- the number that an answer has in document 01's table
unfoldable pub answer_number : Answer → ℕ
answer_number (told t) = told_number t
answer_number (loaded l) = loaded_number l
answer_number (taken s buffer reference) = outcome_number s.outcome
answer_number (ran r buffer reference) = outcome_number r.outcome
answer_number (responded o buffer reference) = outcome_number o
answer_number (shown s) = s.number

-- the numbers that the table gives each call
unfoldable pub numbers_of : Asked → List ℕ
numbers_of create = 0 ∷ []
numbers_of (set_environment n value) = 0 ∷ 18 ∷ 19 ∷ 33 ∷ 35 ∷ []
numbers_of (load page) = 0 ∷ 1 ∷ 2 ∷ 3 ∷ 4 ∷ 5 ∷ 6 ∷ 7 ∷ 33 ∷ 35 ∷ []
numbers_of (step buffer) = 0 ∷ 16 ∷ 17 ∷ 18 ∷ 19 ∷ 22 ∷ 32 ∷ 33 ∷ 35 ∷ []
numbers_of (run_up_to n buffer) = 0 ∷ 16 ∷ 17 ∷ 18 ∷ 19 ∷ 22 ∷ 32 ∷ 33 ∷ 35 ∷ []
numbers_of (respond response buffer) = 0 ∷ 16 ∷ 17 ∷ 18 ∷ 19 ∷ 22 ∷ 32 ∷ 33 ∷ 34 ∷ 35 ∷ []
numbers_of end = 0 ∷ 33 ∷ 35 ∷ []
numbers_of (read_variable n id) = 0 ∷ 17 ∷ 35 ∷ []

pub record Did : Type 0 where
  pub answer : Answer
  pub card : Card

abbrev pub did : Answer → Card → Did
did a c = record { answer = a; card = c }

-- the least length of a lent command buffer
abbrev pub buffer_length : ℕ
buffer_length = 255

-- the lent buffer is written only when a command goes out, and bytes beyond the command stay
unfoldable pub over : List ℕ → List ℕ → List ℕ
over command buffer = command ++ drop (length command) buffer

unfoldable pub buffer_after : List ℕ → Card → Outcome → List ℕ
buffer_after buffer c On = buffer
buffer_after buffer c (Command n) = over (in_hand c.run.hand) buffer
buffer_after buffer c Page = buffer
buffer_after buffer c Ended = buffer
buffer_after buffer c (Refused r) = buffer

-- "other page wanted" carries its reference
unfoldable pub reference_after : Card → Outcome → List ℕ
reference_after c On = []
reference_after c (Command n) = []
reference_after c Page = c.wanted
reference_after c Ended = []
reference_after c (Refused r) = []

-- the tag of a step's byte code, '00' at a unit's end
unfoldable pub tag_of : Option Tlv → ℕ
tag_of (Some h) = h.tag
tag_of None = 0

-- a page runs and awaits no response
unfoldable pub ready : Card → Bool
ready c = cond (runs c) (is_empty c.run.hand) false

unfoldable pub waiting : Card → Bool
waiting c = cond (runs c) (cond (is_empty c.run.hand) false true) false

-- 32, then 35, then 33
unfoldable pub admitted : Bool → Card → Bool → (Refusal → Did) → Did → Did
admitted lent c fitting refuse go =
    cond lent (cond (is_card c) (cond fitting go (refuse Call)) (refuse State)) (refuse Buffer)

unfoldable pub lends : List ℕ → Bool
lends buffer = leb buffer_length (length buffer)

-- a load: 1 to 7 leave all as it was
unfoldable pub load_by : List ℕ → Card → Result (Unit {0}) Rejection → Did
load_by s c (Ok u) = did (loaded (Ok tt)) (started s c)
load_by s c (Err e) = did (loaded (faulty_at e.class e.place)) c

unfoldable pub load_refused : Card → Refusal → Did
load_refused c r = did (loaded (unloaded r)) c

-- a step, with the unit and the tag of its byte code
unfoldable pub step_done : List ℕ → Card → Effect → Did
step_done buffer c d =
    did (taken (record { outcome = d.outcome; unit = c.run.unit; tag = tag_of (here c) }) (buffer_after buffer d.card d.outcome) (reference_after d.card d.outcome)) d.card

unfoldable pub step_refused : List ℕ → Card → Refusal → Did
step_refused buffer c r = did (taken (record { outcome = Refused r; unit = 0; tag = 0 }) buffer []) c

-- up to n steps, k of them being counted already: any outcome but gone on ends it
pub record Counted : Type 0 where
  pub count : ℕ
  pub last : Effect

unfoldable pub goes_on : Outcome → Bool
goes_on On = true
goes_on (Command n) = false
goes_on Page = false
goes_on Ended = false
goes_on (Refused r) = false

unfoldable pub steps : ℕ → ℕ → Card → Counted
steps zero k c = record { count = k; last = effect On c }
steps (suc n) k c =
    let d = stepped c in
    let r = steps n (k + 1) d.card in
    cond (goes_on d.outcome) r (record { count = k + 1; last = d })

unfoldable pub run_done : List ℕ → Counted → Did
run_done buffer r =
    let d = r.last in
    did (ran (record { outcome = d.outcome; count = r.count }) (buffer_after buffer d.card d.outcome) (reference_after d.card d.outcome)) d.card

unfoldable pub run_refused : List ℕ → Card → Refusal → Did
run_refused buffer c r = did (ran (record { outcome = Refused r; count = 0 }) buffer []) c

-- a response: 34 leaves the wait standing
unfoldable pub respond_done : List ℕ → Effect → Did
respond_done buffer d =
    did (responded d.outcome (buffer_after buffer d.card d.outcome) (reference_after d.card d.outcome)) d.card

unfoldable pub respond_refused : List ℕ → Card → Refusal → Did
respond_refused buffer c r = did (responded (Refused r) buffer []) c

unfoldable pub respond_by : List ℕ → List ℕ → Card → Option Reply → Did
respond_by response buffer c (Some a) = respond_done buffer (answered c a.general response a.after)
respond_by response buffer c None = respond_refused buffer c Response

unfoldable pub told_refused : Card → Refusal → Did
told_refused c r = did (told (Err r)) c

-- 19 for a number above '3F' or for '05', then 18; what the host sets has type binary (House)
unfoldable pub environment_done : ℕ → List ℕ → Card → Did
environment_done n value c =
    cond (ltb 0x3F n) (told_refused c Security)
    (cond (eqb n 5) (told_refused c Security)
    (cond (ltb longest (length value)) (told_refused c Memory)
    (did (told (Ok tt)) (with_environment c (set c.environment n (held 3 value))))))

-- what the host may see: protected variables are hidden, and a permanent one is asked for by a Service ID of 1 to 16 bytes
unfoldable pub shown_by : Guard → Slot → Slot
shown_by unlocked x = x
shown_by (locked word) x = free

unfoldable pub seen : Area → Card → ℕ → List ℕ → Slot
seen environmental c n id = get_or c.environment n free
seen permanently c n id = cond (within 1 16 (length id)) (look_for id n c.permanent) free
seen temporarily c n id = shown_by c.guard (get_or c.temporary (n - 0x80) free)
seen string c n id = string_of c.run.page (element c.run.page (n - 0xC0))

unfoldable pub padded : List ℕ → List ℕ
padded b = b ++ replicate (longest - length b) 0

unfoldable pub hidden : Refusal → Shown
hidden r = record { number = number r; valuetype = 0; length = 0; bytes = replicate longest 0 }

unfoldable pub display : Slot → Shown
display free = hidden Variable
display (held type bytes) = record { number = 0; valuetype = type; length = length bytes; bytes = padded bytes }

unfoldable pub read_done : ℕ → List ℕ → Card → Shown
read_done n id c = cond (is_card c) (display (seen (area n) c n id)) (hidden State)

-- one call
unfoldable pub act : Asked → Card → Did
act create c = did (told (Ok tt)) created
act (set_environment n value) c = admitted true c (cond (runs c) false true) (told_refused c) (environment_done n value c)
act (load s) c = admitted true c (cond (runs c) false true) (load_refused c) (load_by s c (judge s))
act (step buffer) c = admitted (lends buffer) c (ready c) (step_refused buffer c) (step_done buffer c (stepped c))
act (run_up_to n buffer) c = admitted (lends buffer) c (ready c) (run_refused buffer c) (run_done buffer (steps n 0 c))
act (respond response buffer) c = admitted (lends buffer) c (waiting c) (respond_refused buffer c) (respond_by response buffer c (reply response))
act end c = admitted true c (runs c) (told_refused c) (did (told (Ok tt)) (rested c))
act (read_variable n id) c = did (shown (read_done n id c)) c

-- a list of calls: what they answer, and the card that they leave
unfoldable pub answers : List Asked → Card → List Answer
answers [] c = []
answers (k ∷ ks) c = let d = act k c in d.answer ∷ answers ks d.card

unfoldable pub after_all : List Asked → Card → Card
after_all [] c = c
after_all (k ∷ ks) c = after_all ks (act k c).card

-- The state may lie in a lent buffer: one of another length than is named gets 32 and is left as it was.
unfoldable pub refused_buffer : Asked → Card → Did
refused_buffer create c = told_refused c Buffer
refused_buffer (set_environment n value) c = told_refused c Buffer
refused_buffer (load s) c = load_refused c Buffer
refused_buffer (step buffer) c = step_refused buffer c Buffer
refused_buffer (run_up_to n buffer) c = run_refused buffer c Buffer
refused_buffer (respond response buffer) c = respond_refused buffer c Buffer
refused_buffer end c = told_refused c Buffer
refused_buffer (read_variable n id) c = did (shown (hidden Buffer)) c

unfoldable pub act_in : (named lent : ℕ) → Asked → Card → Did
act_in named lent k c = cond (eqb lent named) (act k c) (refused_buffer k c)
