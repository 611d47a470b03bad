-- The ways through a response, in the shape of what their proofs need.
-- Assumes nothing.
use Prim.Native.Nat.{ℕ, ◌≤◌}
use mathlib.Core.Bool.{Bool, true, false, cond, true≢false, false≢true}
use mathlib.Core.List.{List}
use mathlib.Core.Path.{◌≡◌, refl, sym, ap, ◌∙◌}
use native.Mathlib.Omega.{arith}
use lib.ListN.{length, get_or, take, drop, length-take, length-drop}
use Rattle.leaf.proofs.Cases.{both, told_as}
use Rattle.rules.specs.declared.Action.{Action}
use Rattle.rules.specs.declared.Action.TheVariants.{Pass, Next, Quit, Back, Retry, Go}
use Rattle.rules.specs.declared.Target.{Target}
use Rattle.rules.specs.declared.Target.TheVariants.{Unit as UnitAt, Lacking, Other}
use Rattle.rules.specs.declared.Outcome.TheVariants.{Ended}
use Rattle.rules.specs.declared.Refusal.TheVariants.{Anchor, Memory}
use Rattle.rules.specs.Bytes.{part}
use Rattle.rules.specs.Shape.{attribute}
use Rattle.rules.specs.Loader.{judge}
use Rattle.rules.specs.Page.{code_at, content_at}
use Rattle.rules.specs.Reference.{target}
use Rattle.rules.specs.Handler.{handle}
use Rattle.rules.specs.Card.{Hand, empty, by_code, Card, is_empty, in_hand}
use Rattle.rules.specs.Store.{wrote, no_room}
use Rattle.rules.specs.Keep.{rested}
use Rattle.rules.specs.Command.{execute_of, results}
use Rattle.rules.specs.IsCard.{history_fine}
use Rattle.rules.specs.Step.{effect, Move, onwards, jump, away, back, send, finish, refuses, does, runs_out, storing, branch_by, branch, perform, with_results, answer_by, answer_for, applied, moved, here, answered}
use Rattle.rules.specs.Calls.{buffer_after}
use Rattle.rules.proofs.StaysCardHistory.{bounds}
use Rattle.rules.proofs.StaysCardReference.{GoRef, handle_ref}
use Rattle.rules.proofs.StaysCardStep.{Running}
use Rattle.rules.proofs.StaysCardWrite.{over}
use Rattle.tlv.proofs.Bounds.{content_in}
use Rattle.variable.specs.View.{seen, view}
use Rattle.slots.specs.Slots.{slots, tidy_slots}
use Rattle.records.specs.Records.{records, tidy_records}
use Rattle.word.specs.Word.{word_in, is_marked, hand_of}
use Rattle.state.specs.declared.State.{State}
use Rattle.state.specs.State.{Is}
use Rattle.moving.specs.declared.Moved.{Moved}
use Rattle.moving.specs.Moved.{Comes, Bounded}
use Rattle.unit.proofs.Units.{code_tlv}
use Rattle.storing.proofs.Lift.{lift, results_lift}
use Rattle.storing.proofs.StoreLaws.{page_is, view_is, stored_is}
use Rattle.sending.specs.Sent.{Sends}
use Rattle.answering.proofs.Silent.{silent_quiet, perform_silent}
use Rattle.results.specs.Asked.{asked}
use Rattle.answering.specs.Answering.{is_retry, is_lacking, lacks_in}
use Rattle.std.specs.Prelude.{Option, None, Ok, Some}
use Rattle.rules.specs.declared.Tlv.{Tlv}

bounded : (s : List ℕ) (a : Action) → GoRef s a → Bounded s a
bounded s Pass g = tt
bounded s Next g = tt
bounded s Quit g = tt
bounded s Back g = tt
bounded s Retry g = tt
bounded s (Go start stop) g = (bounds 2 65 (length (part s start stop)) g).1

module _ (s p : List ℕ) (e : s ≡ p) (k place : ℕ) (h : Option Tlv) (g : h ≡ code_at s k place) (v : Tlv) (x : h ≡ Some v) where
  pub code_ordered : v.start ≤ v.stop
  code_ordered = (code_tlv s k place (sym g ∙ x)).1

  pub code_inside : v.stop ≤ length p
  code_inside = rw (← e) (code_tlv s k place (sym g ∙ x)).2

pub ruleset code_bounds = (code_ordered, code_inside)

module _ (s : List ℕ) (a : Action) where
  pub lacks_as : (b : Action) (v : Bool) → a ≡ b → lacks_in s b ≡ v → v ≡ lacks_in s a
  lacks_as b v e f = told_as (lacks_in s) e f

  pub lacks_go : (start stop : ℕ) → a ≡ Go start stop → (w : List ℕ) → w ≡ part s start stop → (t : Target) → t ≡ target s w → (b : Bool) → b ≡ is_lacking t → b ≡ lacks_in s a
  unfolding lacks_in
  lacks_go start stop x w e t f b g = g ∙ sym (simp x (ap is_lacking (sym (rw e at f))))

pub ruleset lacks_laws = (lacks_as, lacks_go)

-- where an action leads, by the page alone
move_by : List ℕ → Target → Move
move_by w (UnitAt k) = jump k
move_by w Lacking = finish
move_by w Other = away w

move_for : List ℕ → ℕ → Move → Action → Move
move_for s next again Pass = finish
move_for s next again Next = onwards next
move_for s next again Quit = finish
move_for s next again Back = back
move_for s next again Retry = again
move_for s next again (Go start stop) = move_by (part s start stop) (target s (part s start stop))

by_does : (c : Card) (w : List ℕ) (t : Target) → is_lacking t ≡ false → branch_by c w t ≡ does c (move_by w t)
unfolding branch_by is_lacking move_by
by_does c w (UnitAt k) e = refl
by_does c w Lacking e = absurd (true≢false e)
by_does c w Other e = refl

by_lacks : (c : Card) (w : List ℕ) (t : Target) → is_lacking t ≡ true → branch_by c w t ≡ refuses Anchor
unfolding branch_by is_lacking
by_lacks c w (UnitAt k) e = absurd (false≢true e)
by_lacks c w Lacking e = refl
by_lacks c w Other e = absurd (false≢true e)

performs : (c : Card) (next : ℕ) (again : Move) (a : Action) → lacks_in c.run.page a ≡ false → perform c next again a ≡ does c (move_for c.run.page next again a)
unfolding perform lacks_in branch move_for
performs c next again Pass e = refl
performs c next again Next e = refl
performs c next again Quit e = refl
performs c next again Back e = refl
performs c next again Retry e = refl
performs c next again (Go start stop) e = by_does c (part c.run.page start stop) (target c.run.page (part c.run.page start stop)) e

perform_lacks : (c : Card) (next : ℕ) (again : Move) (a : Action) → lacks_in c.run.page a ≡ true → perform c next again a ≡ refuses Anchor
unfolding perform lacks_in branch
perform_lacks c next again Pass e = absurd (false≢true e)
perform_lacks c next again Next e = absurd (false≢true e)
perform_lacks c next again Quit e = absurd (false≢true e)
perform_lacks c next again Back e = absurd (false≢true e)
perform_lacks c next again Retry e = absurd (false≢true e)
perform_lacks c next again (Go start stop) e = by_lacks c (part c.run.page start stop) (target c.run.page (part c.run.page start stop)) e

not_again : (c : Card) (next : ℕ) (again : Move) (a : Action) → is_retry a ≡ false → perform c next again a ≡ perform c next finish a
unfolding perform is_retry
not_again c next again Pass e = refl
not_again c next again Next e = refl
not_again c next again Quit e = refl
not_again c next again Back e = refl
not_again c next again Retry e = absurd (true≢false e)
not_again c next again (Go start stop) e = refl

is_again : (c : Card) (next : ℕ) (again : Move) (a : Action) → is_retry a ≡ true → perform c next again a ≡ does c again
unfolding perform is_retry
is_again c next again Pass e = absurd (false≢true e)
is_again c next again Next e = absurd (false≢true e)
is_again c next again Quit e = absurd (false≢true e)
is_again c next again Back e = absurd (false≢true e)
is_again c next again Retry e = refl
is_again c next again (Go start stop) e = absurd (false≢true e)

hand_word : (p : List ℕ) (h : Hand) → hand_of p ≡ h → is_empty h ≡ false → word_in (drop 1 p) ≡ in_hand h
unfolding hand_of is_empty in_hand
hand_word p h e f =
    both (is_marked p)
    (λ t. let g : by_code (word_in (drop 1 p)) ≡ h = rw t at e in rw (← g) refl)
    (λ t. let g : empty ≡ h = rw t at e in absurd (true≢false (rw (← g) at f)))

pub hand_short : (p w : List ℕ) → length p ≡ 257 → w ≡ word_in (drop 1 p) → length w ≤ 255
unfolding word_in
hand_short p w l e = let a = length-take (get_or (drop 1 p) 0 0) (drop 1 (drop 1 p)) in let b = length-drop 1 (drop 1 p) in let d = length-drop 1 p in rw e (omega arith)

module _ (m : State) (c : Card) (is : Is m c) (before after : List ℕ) (o : Moved) where
  module _ (next : ℕ) (a : Action) (b : Bool) (e : b ≡ is_retry a) where
    pub follow_again : b ≡ true → is_empty c.run.hand ≡ false → (w : List ℕ) → w ≡ word_in (drop 1 m.hand) → ((d : Card) → Is m d → Sends o before after (moved d (send w))) → Sends o before after (applied c (perform c next (send (in_hand c.run.hand)) a))
    unfolding applied
    follow_again g h w x f =
        let v : w ≡ in_hand c.run.hand = x ∙ hand_word m.hand c.run.hand is.hand h in
        rw (is_again c next (send (in_hand c.run.hand)) a (sym e ∙ g), ← v) (f c is)

    pub follow_other : b ≡ false → judge c.run.page ≡ Ok tt → history_fine c.history ≡ true → Bounded c.run.page a
        → ((d : Card) → Is m d → judge d.run.page ≡ Ok tt → history_fine d.history ≡ true → Bounded d.run.page a → Comes o (applied d (perform d next finish a))) → Sends o before before (applied c (perform c next (send (in_hand c.run.hand)) a))
    follow_other g ok h k f =
        rw (not_again c next (send (in_hand c.run.hand)) a (sym e ∙ g)) (record { comes = f c is ok h k; buffer = silent_quiet c (perform c next finish a) (perform_silent c next a) before })

  module _ (tag start stop g : ℕ) (w : List ℕ) (rest : Option Tlv) (a : Action) (lacking : lacks_in c.run.page a ≡ false) (s : List ℕ) (p : s ≡ take m.len m.page)
      (attributes at : ℕ) (x : attributes ≡ attribute s tag start stop) (y : at ≡ content_at s tag start stop) (t q : List ℕ) (b : Bool)
      (e : (env : List ℕ) (z : ℕ) → results (view s env m.temporary m.permanent) (asked attributes at z) g w rest ≡ cond b (wrote (view s env t q)) no_room) where
    results_are : results c (execute_of c.run.page tag start stop) g w rest ≡ lift c (cond b (wrote (view s m.environment t q)) no_room)
    unfolding execute_of asked
    results_are =
        let k : (execute_of c.run.page tag start stop) ≡ asked attributes at stop = rw (← page_is m c is s p, ← x, ← y) refl in
        results_lift c (execute_of c.run.page tag start stop) g w rest ∙ rw (k, view_is m c is s p) (ap (lift c) (e m.environment stop))

    plan_is : with_results (results c (execute_of c.run.page tag start stop) g w rest) (perform c stop (send (in_hand c.run.hand)) a) ≡ storing (move_for c.run.page stop (send (in_hand c.run.hand)) a) (lift c (cond b (wrote (view s m.environment t q)) no_room))
    unfolding with_results
    plan_is = rw (performs c stop (send (in_hand c.run.hand)) a lacking) (ap (storing (move_for c.run.page stop (send (in_hand c.run.hand)) a)) results_are)

    pub results_stored : b ≡ true → (tidy_slots m.temporary ≡ true → tidy_slots t ≡ true) → (tidy_records m.permanent ≡ true → tidy_records q ≡ true) → judge c.run.page ≡ Ok tt → history_fine c.history ≡ true → Bounded c.run.page a → is_empty c.run.hand ≡ false
        → ((d : Card) → Is (record { page = m.page; len = m.len; environment = m.environment; temporary = t; permanent = q; trail = m.trail; guard = m.guard; hand = m.hand; wanted = m.wanted; unit = m.unit; place = m.place }) d → judge d.run.page ≡ Ok tt → history_fine d.history ≡ true → Bounded d.run.page a → is_empty d.run.hand ≡ false → Sends o before after (applied d (perform d stop (send (in_hand d.run.hand)) a)))
        → Sends o before after (applied c (with_results (results c (execute_of c.run.page tag start stop) g w rest) (perform c stop (send (in_hand c.run.hand)) a)))
    unfolding lift storing applied view seen
    results_stored h i j ok k l n f =
        rw (plan_is, h) (rw (performs (over c (records q) (slots t)) stop (send (in_hand c.run.hand)) a lacking) at (f (over c (records q) (slots t)) (stored_is m c is s p t q i j) ok k l n))

    pub results_full : b ≡ false → judge c.run.page ≡ Ok tt → ((d : Card) → Is m d → judge d.run.page ≡ Ok tt → Comes o (applied d (refuses Memory))) → Sends o before before (applied c (with_results (results c (execute_of c.run.page tag start stop) g w rest) (perform c stop (send (in_hand c.run.hand)) a)))
    unfolding lift storing applied buffer_after
    results_full h ok f = rw (plan_is, h) (record { comes = f c is ok; buffer = refl })

module _ (m : State) (c : Card) (is : Is m c) (r : Running c) (o : Moved) (s : List ℕ) (p : s ≡ take m.len m.page) (h : Option Tlv) (e : h ≡ code_at s m.unit m.place) (g : ℕ) (w : List ℕ) (rest : Option Tlv) (before : List ℕ) where
  at_place : here c ≡ h
  unfolding here
  at_place = sym (rw (page_is m c is s p, is.unit, is.place) at e)

  pub answer_out : h ≡ None → ((d : Card) → Is m d → judge d.run.page ≡ Ok tt → Comes o (effect Ended (rested d))) → Sends o before before (answered c g w rest)
  unfolding answered answer_for applied
  answer_out x f = rw (at_place, x) (record { comes = f c is r.accepted; buffer = silent_quiet c runs_out tt before })

  module _ (v : Tlv) (x : h ≡ Some v) (a : Action) (y : a ≡ handle s m.unit g) (b : Bool) (z : b ≡ lacks_in s a) where
    action_is : handle c.run.page c.run.unit g ≡ a
    action_is = sym (rw (page_is m c is s p, is.unit) at y)

    pub answer_lacks : b ≡ true → ((d : Card) → Is m d → judge d.run.page ≡ Ok tt → Comes o (applied d (refuses Anchor))) → Sends o before before (answered c g w rest)
    unfolding answered answer_for answer_by with_results execute_of
    answer_lacks k f =
        let l : lacks_in c.run.page a ≡ true = sym (rw (page_is m c is s p) at z) ∙ k in
        rw (at_place, x, action_is, perform_lacks c v.stop (send (in_hand c.run.hand)) a l) (record { comes = f c is r.accepted; buffer = silent_quiet c (refuses Anchor) tt before })

    pub answer_goes : b ≡ false → is_empty c.run.hand ≡ false → (after : List ℕ)
        → ((d : Card) → Is m d → judge d.run.page ≡ Ok tt → history_fine d.history ≡ true → Bounded d.run.page a → is_empty d.run.hand ≡ false → lacks_in d.run.page a ≡ false
        → Sends o before after (applied d (with_results (results d (execute_of d.run.page v.tag v.start v.stop) g w rest) (perform d v.stop (send (in_hand d.run.hand)) a))))
        → Sends o before after (answered c g w rest)
    unfolding answered answer_for answer_by execute_of
    answer_goes k n after f =
        let l : lacks_in c.run.page a ≡ false = sym (rw (page_is m c is s p) at z) ∙ k in
        rw (at_place, x, action_is)
        (f c is r.accepted r.history (rw (← action_is) (bounded c.run.page (handle c.run.page c.run.unit g) (handle_ref c.run.page r.accepted c.run.unit g))) n l)

pub content_fits : (s p : List ℕ) → s ≡ p → (tag start stop at : ℕ) → at ≡ content_at s tag start stop → start ≤ stop → stop ≤ length p → length s ≤ 4096 → at ≤ 4096
content_fits s p e tag start stop at x h i l =
    let k = content_in s tag start stop h in
    let j : stop ≤ length s = rw e i in
    rw x (omega arith)
