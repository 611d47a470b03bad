-- What is kept for the next page (6.1.3.1), how it is protected, and what the next page finds (6.1.3.2, 6.1.3.3).
use Rattle.std.specs.Prelude.{ℕ, ◌+◌, Bool, false, cond, List, [], ◌∷◌, Option, Some, None}
use Rattle.rules.specs.Bytes.{same, part, among}
use Rattle.rules.specs.Page.{keeps_all, keep_list, password, unlock, entry_of}
use Rattle.rules.specs.Card.{Slot, free, Guard, unlocked, locked, Card, empty, with_temporary, with_guard, with_run, with_wanted, at_rest}
use Rattle.rules.specs.declared.Span.{Span}

unfoldable pub cleared : List Slot → List Slot
cleared [] = []
cleared (x ∷ xs) = free ∷ cleared xs

-- the slots, from number n on, whose numbers a list has
unfoldable pub listed : List ℕ → ℕ → List Slot → List Slot
listed numbers n [] = []
listed numbers n (x ∷ xs) = cond (among numbers n) x free ∷ listed numbers (n + 1) xs

-- a Keep Alive List decides, whatever KeepAll says; else KeepAll keeps all; else nothing is kept
unfoldable pub kept_by : List ℕ → Option Span → List Slot → List Slot
kept_by s (Some p) xs = listed (part s p.from p.end) 0x80 xs
kept_by s None xs = cond (keeps_all s) xs (cleared xs)

-- an OTP protects what is kept; it is stored with nothing kept too
unfoldable pub guard_by : List ℕ → Option Span → Guard
guard_by s (Some p) = locked (part s p.from p.end)
guard_by s None = unlocked

-- a page's end: the keep rule, and no page runs
unfoldable pub rested : Card → Card
rested c =
    with_run (with_guard (with_temporary c (kept_by c.run.page (keep_list c.run.page) c.temporary)) (guard_by c.run.page (password c.run.page))) at_rest

-- a Page Unlock opens a guard that it equals in length and bytes
unfoldable pub unlocks : List ℕ → List ℕ → Option Span → Bool
unlocks word s (Some p) = same word (part s p.from p.end)
unlocks word s None = false

unfoldable pub opened_by : List ℕ → Guard → List Slot → List Slot
opened_by s unlocked xs = xs
opened_by s (locked word) xs = cond (unlocks word s (unlock s)) xs (cleared xs)

-- an accepted page: it starts at its first unit (House)
unfoldable pub started : List ℕ → Card → Card
started s c =
    with_run (with_wanted (with_guard (with_temporary c (opened_by s c.guard c.temporary)) unlocked) [])
    (record { page = s; unit = 0; place = entry_of s 0; hand = empty })
