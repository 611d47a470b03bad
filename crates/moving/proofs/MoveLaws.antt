-- The moves, in the shape of what their proofs need.
-- Assumes nothing.
use Prim.Native.Nat.{ℕ, ◌≤◌, ◌<◌}
use mathlib.Core.Bool.{true, false}
use mathlib.Core.List.{List, [], ◌∷◌}
use mathlib.Core.Logic.{◌⊎◌, inl, inr}
use mathlib.Core.Path.{◌≡◌, refl, sym, ap, ◌∙◌}
use native.Mathlib.Omega.{arith}
use lib.ListN.{length, set, take}
use lib.Dec.{eqb}
use borrow.Author.Tests.{eq-eqb, ne_eqb}
use Rattle.pour.specs.Pour.{blank}
use Rattle.rules.specs.declared.Outcome.TheVariants.{On, Page, Ended, Refused}
use Rattle.rules.specs.declared.Refusal.{Refusal}
use Rattle.rules.specs.declared.Refusal.TheVariants.{Anchor}
use Rattle.rules.specs.declared.Target.{Target}
use Rattle.rules.specs.declared.Target.TheVariants.{Unit as UnitAt, Lacking, Other}
use Rattle.rules.specs.declared.Action.{Action}
use Rattle.rules.specs.declared.Action.TheVariants.{Pass, Next, Quit, Back, Retry, Go}
use Rattle.rules.specs.Numbers.{code, no_error}
use Rattle.rules.specs.Bytes.{part, hex, hex_to}
use Rattle.rules.specs.Loader.{judge}
use Rattle.rules.specs.Page.{bytes_of, password, entry_of}
use Rattle.rules.specs.Reference.{target}
use Rattle.rules.specs.Card.{Slot, held, Card, with_environment, with_history, with_wanted}
use Rattle.rules.specs.Keep.{rested}
use Rattle.rules.specs.Trail.{last, lowered}
use Rattle.rules.specs.IsCard.{history_fine}
use Rattle.rules.specs.Step.{effect, marked, entered, leaving, wanting, back_to, go_back, moved, onwards, jump, away, back, finish, failed, refuses, applied, branch, branch_by, perform}
use Rattle.rules.proofs.StaysCardHistory.{history_fit, last_wanted, bounds}
use Rattle.slots.specs.Slots.{slots, tidy_slots}
use Rattle.trail.specs.Trail.{history_of, tidy_trail}
use Rattle.word.specs.Word.{word_in, laid_word, tidy_wanted}
use Rattle.word.proofs.Parts.{hand_blank, blank_hand, laid_wanted}
use Rattle.word.proofs.Same.{word_laid}
use Rattle.leaving.specs.Leaving.{entry_for, left_by}
use Rattle.leaving.proofs.Accepted.{accepted_password}
use Rattle.state.specs.declared.State.{State}
use Rattle.state.specs.State.{Is, page_of}
use Rattle.state.proofs.Changes.{new_wanted}
use Rattle.moving.specs.declared.Moved.{Moved}
use Rattle.moving.specs.Moved.{Comes, Bounded, code_by}
use Rattle.moving.proofs.Parts.{entry_is, noted_as, noted, placed_is, left_is, lowered_is}
use Rattle.std.specs.Prelude.{Option, Some, None, Ok}

-- the second byte of each code (12.3)
pub low_as : (why what : Refusal) (v : List ℕ) → why ≡ what → code what ≡ v → code why ≡ v
low_as why what v e f = ap code e ∙ f

module _ (why : Refusal) (o : Option ℕ) (is : code why ≡ code_by o) (xs ys : List Slot) where
  pub note_none : o ≡ None → ys ≡ set xs 5 (held 3 []) → ys ≡ set xs 5 (held 3 (code why))
  unfolding code_by
  note_none e f = rw (is, e) f

  pub note_some : (low : ℕ) → o ≡ Some low → ys ≡ set xs 5 (held 3 (0x6F ∷ low ∷ [])) → ys ≡ set xs 5 (held 3 (code why))
  unfolding code_by
  note_some low e f = rw (is, e) f

pub ruleset note_laws = (note_none, note_some)

module _ (m : State) (c : Card) (is : Is m c) where
  module _ (bytes environment : List ℕ) (e : slots environment ≡ set (slots m.environment) 5 (held 3 bytes)) (t : tidy_slots m.environment ≡ true → tidy_slots environment ≡ true) where
    module _ (ok : judge c.run.page ≡ Ok tt) (r : State) (f : (d : Card) → Is (record { page = m.page; len = m.len; environment = environment; temporary = m.temporary; permanent = m.permanent; trail = m.trail; guard = m.guard; hand = m.hand; wanted = m.wanted; unit = m.unit; place = m.place }) d → length (bytes_of d.run.page (password d.run.page)) ≤ 16 → Is r (rested d)) where
      rests : Is r (rested (marked bytes c))
      unfolding marked with_environment
      rests = f (marked bytes c) (noted_as m c is environment t bytes e) (accepted_password c.run.page ok)

      pub fail_is : (why : Refusal) → bytes ≡ code why → Comes (record { state = r; outcome = Refused why }) (applied c (refuses why))
      unfolding applied failed
      fail_is why x = record { outcome = refl; state = rw (← x) rests }

      pub end_is : bytes ≡ 0 ∷ 0 ∷ [] → Comes (record { state = r; outcome = Ended }) (moved c finish)
      unfolding moved no_error hex hex_to
      end_is x = record { outcome = refl; state = rw (← x) rests }

  pub run_out_is : judge c.run.page ≡ Ok tt → (r : State) → ((d : Card) → Is m d → length (bytes_of d.run.page (password d.run.page)) ≤ 16 → Is r (rested d)) → Comes (record { state = r; outcome = Ended }) (effect Ended (rested c))
  run_out_is ok r f = record { outcome = refl; state = f c is (accepted_password c.run.page ok) }

  pub enter_is : (k place : ℕ) (s hand : List ℕ) → s ≡ take m.len m.page → place ≡ entry_of s k → hand ≡ blank 257
      → Comes (record { state = record { page = m.page; len = m.len; environment = m.environment; temporary = m.temporary; permanent = m.permanent; trail = m.trail; guard = m.guard; hand = hand; wanted = m.wanted; unit = k; place = place }; outcome = On }) (effect On (entered c k))
  enter_is k place s hand p q h =
      record { outcome = refl; state = entry_is m c is k place hand (q ∙ ap (λ (x : List ℕ). entry_of x k) p) (rw h hand_blank) (rw h blank_hand) }

  module _ (environment : List ℕ) (e : slots environment ≡ set (slots m.environment) 5 (held 3 (0 ∷ 0 ∷ []))) (t : tidy_slots m.environment ≡ true → tidy_slots environment ≡ true) where
    pub go_on_is : (place : ℕ) (hand : List ℕ) → hand ≡ blank 257 → Comes (record { state = record { page = m.page; len = m.len; environment = environment; temporary = m.temporary; permanent = m.permanent; trail = m.trail; guard = m.guard; hand = hand; wanted = m.wanted; unit = m.unit; place = place }; outcome = On }) (moved c (onwards place))
    unfolding moved
    go_on_is place hand h = record { outcome = refl; state = placed_is m c is environment t e place hand (rw h hand_blank) (rw h blank_hand) }

    module _ (ok : judge c.run.page ≡ Ok tt) where
      module _ (s entry : List ℕ) (n : ℕ) (p : s ≡ take m.len m.page) (q : judge s ≡ Ok tt → take n entry ≡ entry_for s m.unit)
          (trail : List ℕ) (h : history_of trail ≡ left_by (take n entry) (history_of m.trail)) (i : tidy_trail m.trail ≡ true → tidy_trail trail ≡ true) (r : Moved) where
        gone : Is (record { page = m.page; len = m.len; environment = environment; temporary = m.temporary; permanent = m.permanent; trail = trail; guard = m.guard; hand = m.hand; wanted = m.wanted; unit = m.unit; place = m.place }) (leaving (marked no_error c))
        gone = left_is m c is environment t e trail i ok (λ k. h ∙ rw (q (rw p k), p) refl)

        pub jump_is : (k : ℕ) → ((d : Card) → Is (record { page = m.page; len = m.len; environment = environment; temporary = m.temporary; permanent = m.permanent; trail = trail; guard = m.guard; hand = m.hand; wanted = m.wanted; unit = m.unit; place = m.place }) d → Comes r (effect On (entered d k))) → Comes r (moved c (jump k))
        unfolding moved
        jump_is k f = f (leaving (marked no_error c)) gone

        pub away_is : (w : List ℕ) → length w ≤ 65 → ((d : Card) → Is (record { page = m.page; len = m.len; environment = environment; temporary = m.temporary; permanent = m.permanent; trail = trail; guard = m.guard; hand = m.hand; wanted = m.wanted; unit = m.unit; place = m.place }) d → judge d.run.page ≡ Ok tt → length w ≤ 65 → Comes r (wanting d w)) → Comes r (moved c (away w))
        unfolding moved leaving marked with_history with_environment
        away_is w l f = f (leaving (marked no_error c)) gone ok l

      module _ (r : Moved) where
        pub back_none : (p : ℕ) → p ≡ (history_of m.trail).pointer → p ≡ 0 → ((d : Card) → Is (record { page = m.page; len = m.len; environment = environment; temporary = m.temporary; permanent = m.permanent; trail = m.trail; guard = m.guard; hand = m.hand; wanted = m.wanted; unit = m.unit; place = m.place }) d → judge d.run.page ≡ Ok tt → Comes r (effect Ended (rested d))) → Comes r (moved c back)
        unfolding moved go_back marked with_environment
        back_none p x y f =
            let k : eqb c.history.pointer 0 ≡ true = rw (← is.history, ← x) (eq-eqb _ _ y) in
            rw k (f (marked no_error c) (noted m c is environment t e) ok)

        module _ (p : ℕ) (x : p ≡ (history_of m.trail).pointer) (y : p ≡ 0 → ⊥) (w : List ℕ) (z : w ≡ last (history_of m.trail)) (trail : List ℕ) (h : history_of trail ≡ lowered (history_of m.trail))
            (i : tidy_trail m.trail ≡ true → tidy_trail trail ≡ true) (s : List ℕ) (o : s ≡ take m.len m.page) (g : Target) (j : g ≡ target s w) where
          returns : Is (record { page = m.page; len = m.len; environment = environment; temporary = m.temporary; permanent = m.permanent; trail = trail; guard = m.guard; hand = m.hand; wanted = m.wanted; unit = m.unit; place = m.place }) (with_history (marked no_error c) (lowered c.history))
          returns = lowered_is m c is environment t e trail i h

          back_is : moved c back ≡ back_to (with_history (marked no_error c) (lowered c.history)) w g
          unfolding moved go_back marked with_environment page_of
          back_is =
              let v : w ≡ last c.history = rw (← is.history) z in
              let u : g ≡ target c.run.page (last c.history) = rw (← v, ← is.page, ← o) j in
              let k : eqb c.history.pointer 0 ≡ false = rw (← is.history, ← x) (ne_eqb _ _ y) in
              rw k (rw (u, v) refl)

          pub back_unit : (k : ℕ) → g ≡ UnitAt k → ((d : Card) → Is (record { page = m.page; len = m.len; environment = environment; temporary = m.temporary; permanent = m.permanent; trail = trail; guard = m.guard; hand = m.hand; wanted = m.wanted; unit = m.unit; place = m.place }) d → Comes r (effect On (entered d k))) → Comes r (moved c back)
          unfolding back_to
          back_unit k b f = rw (back_is, b) (f _ returns)

          module _ (fine : history_fine c.history ≡ true) (f : (d : Card) → Is (record { page = m.page; len = m.len; environment = environment; temporary = m.temporary; permanent = m.permanent; trail = trail; guard = m.guard; hand = m.hand; wanted = m.wanted; unit = m.unit; place = m.place }) d → judge d.run.page ≡ Ok tt → length w ≤ 65 → Comes r (wanting d w)) where
            fetched : Comes r (wanting (with_history (marked no_error c) (lowered c.history)) w)
            unfolding marked with_history with_environment
            fetched =
                let v : w ≡ last c.history = rw (← is.history) z in
                let u : eqb c.history.pointer 0 ≡ false = rw (← is.history, ← x) (ne_eqb _ _ y) in
                f _ returns ok (rw v (bounds 2 65 (length (last c.history)) (last_wanted c.history (history_fit c.history fine) u)).1)

            pub back_fetched : (g ≡ Lacking) ⊎ (g ≡ Other) → Comes r (moved c back)
            unfolding back_to
            back_fetched (inl b) = rw (back_is, b) fetched
            back_fetched (inr b) = rw (back_is, b) fetched

  pub fetch_is : (w wanted : List ℕ) → (length w ≤ 65 → word_in wanted ≡ w) → (tidy_wanted m.wanted ≡ true → tidy_wanted wanted ≡ true) → judge c.run.page ≡ Ok tt → length w ≤ 65 → (r : State)
      → ((d : Card) → Is (record { page = m.page; len = m.len; environment = m.environment; temporary = m.temporary; permanent = m.permanent; trail = m.trail; guard = m.guard; hand = m.hand; wanted = wanted; unit = m.unit; place = m.place }) d → length (bytes_of d.run.page (password d.run.page)) ≤ 16 → Is r (rested d)) → Comes (record { state = r; outcome = Page }) (wanting c w)
  unfolding wanting with_wanted
  fetch_is w wanted x t ok l r f =
      record { outcome = refl; state = f (with_wanted c w) (new_wanted m c is wanted w (x l) (t is.tidy_want)) (accepted_password c.run.page ok) }

  module _ (ok : judge c.run.page ≡ Ok tt) (start stop : ℕ) (r : Moved) where
    pub depart_is : (s w : List ℕ) → s ≡ take m.len m.page → w ≡ part s start stop → length (part c.run.page start stop) ≤ 65
        → ((d : Card) → Is m d → judge d.run.page ≡ Ok tt → length w ≤ 65 → Comes r (moved d (away w))) → Comes r (moved c (away (part c.run.page start stop)))
    unfolding page_of
    depart_is s w p q l f =
        let v : w ≡ part c.run.page start stop = rw (← is.page, ← p) q in
        rw (← v) (f c is ok (rw v l))

    module _ (g : Target) (j : g ≡ target (take m.len m.page) (part (take m.len m.page) start stop)) where
      branch_is : branch c (part c.run.page start stop) ≡ branch_by c (part c.run.page start stop) g
      unfolding branch page_of
      branch_is = ap (branch_by c (part c.run.page start stop)) (sym (rw is.page at j))

      pub branch_unit : (k : ℕ) → g ≡ UnitAt k → ((d : Card) → Is m d → judge d.run.page ≡ Ok tt → Comes r (moved d (jump k))) → Comes r (applied c (branch c (part c.run.page start stop)))
      unfolding branch_by applied
      branch_unit k b f = rw (branch_is, b) (f c is ok)

      pub branch_lacking : g ≡ Lacking → ((d : Card) → Is m d → judge d.run.page ≡ Ok tt → Comes r (applied d (refuses Anchor))) → Comes r (applied c (branch c (part c.run.page start stop)))
      unfolding branch_by
      branch_lacking b f = rw (branch_is, b) (f c is ok)

      pub branch_other : g ≡ Other → length (part c.run.page start stop) ≤ 65 → ((d : Card) → Is m d → judge d.run.page ≡ Ok tt → length (part d.run.page start stop) ≤ 65 → Comes r (moved d (away (part d.run.page start stop)))) → Comes r (applied c (branch c (part c.run.page start stop)))
      unfolding branch_by applied
      branch_other b l f = rw (branch_is, b) (f c is ok l)

  module _ (ok : judge c.run.page ≡ Ok tt) (next : ℕ) (a : Action) (r : Moved) where
    pub perform_end : (a ≡ Pass) ⊎ ((a ≡ Quit) ⊎ (a ≡ Retry)) → ((d : Card) → Is m d → judge d.run.page ≡ Ok tt → Comes r (moved d finish)) → Comes r (applied c (perform c next finish a))
    unfolding perform applied
    perform_end (inl x) f = rw x (f c is ok)
    perform_end (inr (inl x)) f = rw x (f c is ok)
    perform_end (inr (inr x)) f = rw x (f c is ok)

    pub perform_next : a ≡ Next → ((d : Card) → Is m d → Comes r (moved d (onwards next))) → Comes r (applied c (perform c next finish a))
    unfolding perform applied
    perform_next x f = rw x (f c is)

    pub perform_back : a ≡ Back → history_fine c.history ≡ true → ((d : Card) → Is m d → judge d.run.page ≡ Ok tt → history_fine d.history ≡ true → Comes r (moved d back)) → Comes r (applied c (perform c next finish a))
    unfolding perform applied
    perform_back x h f = rw x (f c is ok h)

    pub perform_go : (start stop : ℕ) → a ≡ Go start stop → Bounded c.run.page a → ((d : Card) → Is m d → judge d.run.page ≡ Ok tt → length (part d.run.page start stop) ≤ 65 → Comes r (applied d (branch d (part d.run.page start stop)))) → Comes r (applied c (perform c next finish a))
    unfolding perform
    perform_go start stop x b f = rw x (f c is ok (rw x at b))

module _ (w a b : List ℕ) where
  pub want_long : 65 < length w → (length w ≤ 65 → word_in a ≡ w)
  want_long h l = absurd (omega arith)

  pub want_is : length w ≤ 65 → b ≡ laid_word 66 w → (length w ≤ 65 → word_in b ≡ w)
  want_is l e _ = rw e (word_laid 66 w (omega arith))

  pub want_tidy : length w ≤ 65 → b ≡ laid_word 66 w → (tidy_wanted a ≡ true → tidy_wanted b ≡ true)
  want_tidy l e _ = rw e (laid_wanted w l)

pub ruleset want_laws = (want_long, want_is, want_tidy)

pub target_at_is : (p w s : List ℕ) (start stop : ℕ) (g : Target) → s ≡ p → w ≡ part s start stop → g ≡ target s w → g ≡ target p (part p start stop)
target_at_is p w s start stop g e f h = rw (← e, ← f) h
