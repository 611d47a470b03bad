-- What the functions on the parts need.
-- Assumes nothing.
use Prim.Native.Nat.{ℕ, ◌≤◌, ◌<◌}
use mathlib.Core.Bool.{Bool, true, false, cond}
use mathlib.Core.List.{List, [], ◌∷◌}
use mathlib.Core.Path.{◌≡◌, refl, sym, ap, ◌∙◌}
use native.Mathlib.Omega.{arith}
use lib.ListN.{length, take, set}
use lib.Dec.{eqb}
use borrow.Author.Tests.{eq-eqb, ne_eqb}
use Rattle.rules.specs.declared.Target.{Target}
use Rattle.rules.specs.declared.Target.TheVariants.{Unit as OwnUnit, Lacking, Other}
use Rattle.rules.specs.Bytes.{part}
use Rattle.rules.specs.Loader.{judge}
use Rattle.rules.specs.Tlvs.{tlvs}
use Rattle.rules.specs.Pieces.{named}
use Rattle.rules.specs.Page.{keep_list, password, bytes_of, entry_of}
use Rattle.rules.specs.Store.{wrote, no_room, write}
use Rattle.rules.specs.Value.{joined, shortest}
use Rattle.rules.specs.Step.{set_all}
use Rattle.variable.specs.View.{view}
use Rattle.rules.specs.Keep.{kept_by, guard_by}
use Rattle.rules.specs.Reference.{target}
use Rattle.rules.specs.Card.{History, held}
use Rattle.rules.specs.Trail.{last}
use Rattle.pour.specs.Pour.{poured}
use Rattle.slots.specs.Slots.{slots}
use Rattle.word.specs.Word.{laid_marked, word_in, guard_of}
use Rattle.value.specs.Into.{into}
use Rattle.sending.proofs.SendLaws.{text_is}
use Rattle.parts.specs.declared.Turn.{Turn}
use Rattle.parts.specs.declared.Turn.TheVariants.{Nowhere, Unit, Page}
use Rattle.parts.specs.Parts.{command_of, turn_to, turn_of}
use Rattle.trail.specs.Trail.{history_of}
use Rattle.leaving.specs.Leaving.{entry_for, left_by}
use Rattle.std.specs.Prelude.{Ok}

module _ (done : Bool) (before after : List ℕ) where
  pub note_done : done ≡ true → slots after ≡ set (slots before) 5 (held 3 (0 ∷ 0 ∷ [])) → slots after ≡ cond done (set (slots before) 5 (held 3 (0 ∷ 0 ∷ []))) (slots before)
  note_done x e = rw x e

  pub note_undone : done ≡ false → slots before ≡ cond done (set (slots before) 5 (held 3 (0 ∷ 0 ∷ []))) (slots before)
  note_undone x = rw x refl

pub ruleset note_laws = (note_done, note_undone)

pub left_is : (s page entry : List ℕ) (n unit : ℕ) (before after : List ℕ) → s ≡ page → (judge s ≡ Ok tt → take n entry ≡ entry_for s unit) → history_of after ≡ left_by (take n entry) (history_of before) → (judge page ≡ Ok tt → history_of after ≡ left_by (entry_for page unit) (history_of before))
left_is s page entry n unit before after p q e ok = rw (e, q (rw p ok), p) refl

module _ (s page after : List ℕ) (e : s ≡ page) where
  pub kept_is : (before : List ℕ) → slots after ≡ kept_by s (keep_list s) (slots before) → slots after ≡ kept_by page (keep_list page) (slots before)
  kept_is before x = rw (← e) x

  pub guarded_is : (length (bytes_of s (password s)) ≤ 16 → guard_of after ≡ guard_by s (password s)) → (length (bytes_of page (password page)) ≤ 16 → guard_of after ≡ guard_by page (password page))
  guarded_is f = rw (← e) f

module _ (page s env temp perm : List ℕ) (p : s ≡ page) (tag start stop n : ℕ) (e : n ≡ length (command_of s env temp perm tag start stop)) where
  pub command_length_lem : n ≡ length (command_of page env temp perm tag start stop)
  command_length_lem = rw (← p) e

  module _ (l : n ≤ 255) (b bytes w : List ℕ) (g : bytes ≡ into b (command_of s env temp perm tag start stop)) (i : w ≡ part bytes 0 n) where
    text : w ≡ command_of page env temp perm tag start stop
    text = rw (← p) (text_is s env temp perm tag start stop n e l b bytes w g i)

    pub command_held : (hand : List ℕ) → hand ≡ laid_marked 257 w → hand ≡ laid_marked 257 (command_of page env temp perm tag start stop)
    command_held hand x = rw (← text) x

    pub command_out : (before after : List ℕ) → after ≡ poured before 0 w → after ≡ poured before 0 (command_of page env temp perm tag start stop)
    command_out before after x = rw (← text) x

pub not_long : {A : Type 0} (n : ℕ) → n ≤ 255 → 255 < n → A
not_long n h i = absurd (omega arith)

pub want_part : (page s word after : List ℕ) (start stop : ℕ) → s ≡ page → word ≡ part s start stop → (length word ≤ 65 → word_in after ≡ word) → (length (part page start stop) ≤ 65 → word_in after ≡ part page start stop)
want_part page s word after start stop p e f = rw (← p, ← e) f

-- the kinds of a turn are apart
kind : Turn → ℕ
kind Nowhere = 0
kind (Unit k) = 1
kind Page = 2

pub unit_not_page : {A : Type 0} (k : ℕ) → Unit k ≡ Page → A
unfolding kind
unit_not_page k e = absurd (omega (arith, ap kind e))

pub page_not_unit : {A : Type 0} (k : ℕ) → Page ≡ Unit k → A
page_not_unit k e = unit_not_page k (sym e)

pub nowhere_not_unit : {A : Type 0} (k : ℕ) → Nowhere ≡ Unit k → A
unfolding kind
nowhere_not_unit k e = absurd (omega (arith, ap kind e))

pub nowhere_not_page : {A : Type 0} → Nowhere ≡ Page → A
unfolding kind
nowhere_not_page e = absurd (omega (arith, ap kind e))

module _ (page s entry : List ℕ) (p : s ≡ page) (t : Target) (e : t ≡ target s entry) where
  pub turn_unit : (k : ℕ) → t ≡ OwnUnit k → Unit k ≡ turn_to (target page entry)
  unfolding turn_to
  turn_unit k x = rw (← p, ← e, x) refl

  pub turn_lacking : t ≡ Lacking → Page ≡ turn_to (target page entry)
  unfolding turn_to
  turn_lacking x = rw (← p, ← e, x) refl

  pub turn_other : t ≡ Other → Page ≡ turn_to (target page entry)
  unfolding turn_to
  turn_other x = rw (← p, ← e, x) refl

turn_somewhere : {A : Type 0} (t : Target) → Nowhere ≡ turn_to t → A
unfolding turn_to
turn_somewhere (OwnUnit k) e = nowhere_not_unit k e
turn_somewhere Lacking e = nowhere_not_page e
turn_somewhere Other e = nowhere_not_page e

module _ (page : List ℕ) (h : History) (n : ℕ) (e : n ≡ h.pointer) where
  pub turn_none : n ≡ 0 → Nowhere ≡ turn_of page h
  unfolding turn_of
  turn_none x = rw (← e, eq-eqb _ _ x) refl

  module _ (x : n ≡ 0 → ⊥) (entry : List ℕ) (f : entry ≡ last h) (r : Turn) (g : r ≡ turn_to (target page entry)) where
    pub turn_is : r ≡ turn_of page h
    unfolding turn_of
    turn_is =
        let k : eqb h.pointer 0 ≡ false = rw (← e) (ne_eqb _ _ x) in
        rw k (g ∙ ap (λ (w : List ℕ). turn_to (target page w)) f)

    pub turn_not_nowhere : {A : Type 0} → r ≡ Nowhere → A
    turn_not_nowhere y = turn_somewhere (target page entry) (sym y ∙ g)

    pub turn_wanted : (after : List ℕ) → (r ≡ Page → length entry ≤ 65 → word_in after ≡ entry) → (r ≡ Page → length (last h) ≤ 65 → word_in after ≡ last h)
    turn_wanted after k y l = k y (rw f l) ∙ f

-- the page as it is lent
module _ (s page : List ℕ) (e : s ≡ page) where
  pub entry_lent : (k n : ℕ) → n ≡ entry_of s k → n ≡ entry_of page k
  entry_lent k n x = x ∙ ap (λ (q : List ℕ). entry_of q k) e

  pub set_lent : (env temp perm temp' perm' : List ℕ) (start stop : ℕ) (b : Bool) → set_all (tlvs 1 s start stop) (view s env temp perm) ≡ cond b (wrote (view s env temp' perm')) no_room → set_all (tlvs 1 page start stop) (view page env temp perm) ≡ cond b (wrote (view page env temp' perm')) no_room
  set_lent env temp perm temp' perm' start stop b x = rw (← e) x

  pub length_lent : (env temp perm temp' perm' : List ℕ) (n from to : ℕ) (b : Bool) → write (view s env temp perm) n 3 (shortest (length (joined (view s env temp perm) (named (part s from to))))) ≡ cond b (wrote (view s env temp' perm')) no_room
      → write (view page env temp perm) n 3 (shortest (length (joined (view page env temp perm) (named (part page from to))))) ≡ cond b (wrote (view page env temp' perm')) no_room
  length_lent env temp perm temp' perm' n from to b x = rw (← e) x
