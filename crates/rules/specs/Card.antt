-- The abstract card: what is stored and what runs.
use Rattle.std.specs.Prelude.{ℕ, Bool, true, false, List, [], ◌∷◌, replicate}

-- a variable's slot: free, or a value with its type (6.2)
pub data Slot : Type 0 where
  free : Slot
  held : (type : ℕ) (bytes : List ℕ) → Slot

-- a place for a permanent record (6.1.2): none, or a Service ID, a number, a type and a value
pub data Record : Type 0 where
  none : Record
  stored : (service : List ℕ) (number : ℕ) (type : ℕ) (bytes : List ℕ) → Record

-- the password that protects what was kept (6.1.3)
pub data Guard : Type 0 where
  unlocked : Guard
  locked : List ℕ → Guard

-- the command in hand, by what sent it: today always a byte code
pub data Hand : Type 0 where
  empty : Hand
  by_code : List ℕ → Hand

-- 4.6: references, the oldest first, and how many of them can still be gone back to
pub record History : Type 0 where
  pub entries : List (List ℕ)
  pub pointer : ℕ

-- the running page, its unit, the place of the next byte code, and the command in hand; at rest the page is empty
pub record Run : Type 0 where
  pub page : List ℕ
  pub unit : ℕ
  pub place : ℕ
  pub hand : Hand

pub record Card : Type 0 where
  pub environment : List Slot
  pub permanent : List Record
  pub temporary : List Slot
  pub guard : Guard
  pub history : History
  pub run : Run
  pub wanted : List ℕ

unfoldable pub with_environment : Card → List Slot → Card
with_environment c e =
    record { environment = e; permanent = c.permanent; temporary = c.temporary; guard = c.guard; history = c.history; run = c.run; wanted = c.wanted }

unfoldable pub with_permanent : Card → List Record → Card
with_permanent c p =
    record { environment = c.environment; permanent = p; temporary = c.temporary; guard = c.guard; history = c.history; run = c.run; wanted = c.wanted }

unfoldable pub with_temporary : Card → List Slot → Card
with_temporary c t =
    record { environment = c.environment; permanent = c.permanent; temporary = t; guard = c.guard; history = c.history; run = c.run; wanted = c.wanted }

unfoldable pub with_guard : Card → Guard → Card
with_guard c g =
    record { environment = c.environment; permanent = c.permanent; temporary = c.temporary; guard = g; history = c.history; run = c.run; wanted = c.wanted }

unfoldable pub with_history : Card → History → Card
with_history c h =
    record { environment = c.environment; permanent = c.permanent; temporary = c.temporary; guard = c.guard; history = h; run = c.run; wanted = c.wanted }

unfoldable pub with_run : Card → Run → Card
with_run c r =
    record { environment = c.environment; permanent = c.permanent; temporary = c.temporary; guard = c.guard; history = c.history; run = r; wanted = c.wanted }

unfoldable pub with_wanted : Card → List ℕ → Card
with_wanted c w =
    record { environment = c.environment; permanent = c.permanent; temporary = c.temporary; guard = c.guard; history = c.history; run = c.run; wanted = w }

unfoldable pub at_rest : Run
at_rest = record { page = []; unit = 0; place = 0; hand = empty }

-- a page runs
unfoldable pub runs : Card → Bool
runs c = is_run c.run.page
  where
    is_run : List ℕ → Bool
    is_run [] = false
    is_run (x ∷ xs) = true

-- a response is awaited
unfoldable pub is_empty : Hand → Bool
is_empty empty = true
is_empty (by_code b) = false

-- the bytes of the command in hand
unfoldable pub in_hand : Hand → List ℕ
in_hand empty = []
in_hand (by_code b) = b

-- the number of slots of an area, and of permanent records
abbrev pub slots : ℕ
slots = 64

-- a created card is empty
unfoldable pub created : Card
created =
    record {
      environment = replicate slots free;
      permanent = replicate slots none;
      temporary = replicate slots free;
      guard = unlocked;
      history = record { entries = []; pointer = 0 };
      run = at_rest;
      wanted = [];
    }
