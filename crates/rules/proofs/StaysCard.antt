-- A card stays a card: whatever the host asks of it, number 35 is not given afterwards.
-- Assumes nothing.
use mathlib.Core.Path.{◌≡◌, refl}
use mathlib.Core.Bool.{Bool, true, false, true≢false, false≢true}
use mathlib.Core.List.{List, [], ◌∷◌}
use Prim.Native.Nat.{ℕ, zero, suc, ◌+◌}
use native.Mathlib.Omega.{arith}
use lib.ListN.{length}
use lib.Dec.{ltb, eqb}
use borrow.Author.Tests.{ltb-false, eqb-true, eqb-false}
use Rattle.rules.specs.Tlv.{head_at}
use Rattle.rules.specs.Loader.{judge}
use Rattle.rules.specs.Page.{page_head, row_of, page_row, part_in, page_part, password, unlock, unit_in, unit_at, code_in, code_at}
use Rattle.rules.specs.Card.{Slot, Guard, unlocked, locked, Card, created, runs, is_empty, with_temporary, with_guard, with_run, with_wanted}
use Rattle.rules.specs.Store.{longest}
use Rattle.rules.specs.Keep.{guard_by, unlocks, opened_by, started}
use Rattle.rules.specs.Command.{reply}
use Rattle.rules.specs.Step.{plan_for, here, decide, applied, stepped}
use Rattle.rules.specs.IsCard.{guard_fine, hand_fine, wanted_fine, run_fine, is_open, is_card}
use Rattle.rules.specs.Calls.{Asked, create, set_environment, load, step, run_up_to, respond, end, read_variable, Did, ready, waiting, admitted, lends, load_by, load_refused, step_done, step_refused, Counted, goes_on, steps, run_done, run_refused, respond_done, respond_refused, respond_by, told_refused, environment_done, act, after_all}
use Rattle.rules.specs.Open.{opened}
use Rattle.rules.specs.declared.Refusal.{Refusal}
use Rattle.rules.specs.declared.Refusal.TheVariants.{Call, State, Buffer}
use Rattle.rules.proofs.Choices.{both, either}
use Rattle.rules.proofs.BlankTests.{first, second, barred}
use Rattle.rules.proofs.StaysCardParts.{parts_of}
use Rattle.rules.proofs.StaysCardStore.{SlotsFit, cleared_fit, environment_card}
use Rattle.rules.proofs.StaysCardPage.{page_fine}
use Rattle.rules.proofs.StaysCardStep.{running_card, card_running, rested_card, ends_card, stepped_card, answered_card}
use Rattle.std.specs.Prelude.{Option, Some, None, Result, Ok, Err}
use Rattle.rules.specs.declared.Rejection.{Rejection}
use Rattle.rules.specs.declared.Reply.{Reply}

-- a created card is a card
pub created_card : is_card created ≡ true
unfolding opened
created_card = refl

-- a page runs where there is one
no_page : (s : List ℕ) → length s ≡ 0 → s ≡ []
no_page [] e = refl
no_page (x ∷ xs) e = absurd (omega arith)

page_cases : {P : Type 0} (s : List ℕ) → (s ≡ [] → P) → ((x : ℕ) (xs : List ℕ) → s ≡ x ∷ xs → P) → P
page_cases [] p q = p refl
page_cases (x ∷ xs) p q = q x xs refl

rests : (c : Card) → runs c ≡ false → c.run.page ≡ []
unfolding runs
rests c e = page_cases c.run.page (λ q. q) (λ x xs q. absurd (true≢false (rw q at e)))

runs_page : (c : Card) → runs c ≡ true → length c.run.page ≡ 0 → ⊥
unfolding runs
runs_page c e n = false≢true (rw (no_page c.run.page n) at e)

-- a step that finds no page leaves a card too
nothing_here : (c : Card) → c.run.page ≡ [] → here c ≡ None
unfolding here code_at code_in unit_at unit_in page_row page_head row_of head_at
nothing_here c e = rw e

unguarded : (s : List ℕ) → s ≡ [] → guard_fine (guard_by s (password s)) ≡ true
unfolding guard_by password page_part page_row page_head row_of head_at part_in guard_fine
unguarded s e = rw e

rest_wanted : (c : Card) → run_fine c [] ≡ true → wanted_fine c.wanted ≡ true
unfolding run_fine
rest_wanted c e =
    second (is_empty c.run.hand) _ (second (eqb c.run.place 0) _ (second (eqb c.run.unit 0) _ e))

at_rest_lem : (c : Card) → is_card c ≡ true → c.run.page ≡ [] → is_card (stepped c).card ≡ true
unfolding stepped decide plan_for applied run_fine
at_rest_lem c k e =
    let p = parts_of c k in
    rw (nothing_here c e) (rested_card c p.areas p.history (unguarded c.run.page e) (rest_wanted c (rw e at p.run)))

step_card : (c : Card) → is_card c ≡ true → is_card (stepped c).card ≡ true
step_card c k =
    both (eqb (length c.run.page) 0)
    (λ t. at_rest_lem c k (no_page c.run.page (eqb-true (length c.run.page) 0 t)))
    (λ t. stepped_card c (card_running c k (eqb-false (length c.run.page) 0 t)).0)

steps_card : (n k : ℕ) (c : Card) → is_card c ≡ true → is_card (steps n k c).last.card ≡ true
unfolding steps
steps_card zero k c e = e
steps_card (suc n) k c e =
    either (λ (r : Counted). is_card r.last.card ≡ true) (goes_on (stepped c).outcome) (λ _. steps_card n (k + 1) (stepped c).card (step_card c e)) (λ _. step_card c e)

-- an accepted page starts
opened_fit : (s : List ℕ) (g : Guard) (xs : List Slot) → SlotsFit xs → SlotsFit (opened_by s g xs)
unfolding opened_by
opened_fit s unlocked xs h = h
opened_fit s (locked word) xs h = either SlotsFit (unlocks word s (unlock s)) (λ _. h) (λ _. cleared_fit xs h)

started_card : (s : List ℕ) (c : Card) → is_card c ≡ true → judge s ≡ Ok tt → is_card (started s c) ≡ true
unfolding started with_run with_wanted with_guard with_temporary is_open hand_fine
started_card s c k j =
    let p = parts_of c k in
    let a = p.areas in
    let f = page_fine s j in
    let t = opened_fit s c.guard c.temporary (record { many = a.temporaries; fine = a.temporary_fine; small = a.temporary_room }) in
    running_card (started s c)
    (record {
      areas = record {
        environments = a.environments;
        temporaries = t.many;
        permanents = a.permanents;
        environment_fine = a.environment_fine;
        temporary_fine = t.fine;
        temporary_room = t.small;
        permanent_fine = a.permanent_fine;
        permanent_room = a.permanent_room;
      };
      history = p.history;
      opened = refl;
      unwanted = refl;
      accepted = j;
      unit = f.units;
      place = f.entry 0;
    })
    refl

abbrev StillCard : Did → Type 0
StillCard d = is_card d.card ≡ true

module _ (c : Card) (k : is_card c ≡ true) where
  load_by_card : (s : List ℕ) (j : Result (Unit {0}) Rejection) → judge s ≡ j → is_card (load_by s c j).card ≡ true
  unfolding load_by
  load_by_card s (Ok u) e = started_card s c k e
  load_by_card s (Err q) e = k

  environment_done_card : c.run.page ≡ [] → (n : ℕ) (v : List ℕ) → is_card (environment_done n v c).card ≡ true
  unfolding environment_done told_refused
  environment_done_card e n v =
      either StillCard (ltb 0x3F n) (λ _. k)
      (λ _. either StillCard (eqb n 5) (λ _. k)
      (λ _. either StillCard (ltb longest (length v)) (λ _. k) (λ t. environment_card c n v k e (ltb-false longest (length v) t))))

  respond_by_card : runs c ≡ true → is_empty c.run.hand ≡ false → (response buffer : List ℕ) (r : Option Reply) → is_card (respond_by response buffer c r).card ≡ true
  unfolding respond_by respond_done respond_refused
  respond_by_card t n response buffer (Some a) = let r = card_running c k (runs_page c t) in answered_card c r.0 r.1 n a.general response a.after
  respond_by_card t n response buffer None = k

  admitted_card : (lent fitting : Bool) (refuse : Refusal → Did) (go : Did) → ((r : Refusal) → StillCard (refuse r)) → (fitting ≡ true → StillCard go) → StillCard (admitted lent c fitting refuse go)
  unfolding admitted
  admitted_card lent fitting refuse go r g =
      either StillCard lent (λ _. either StillCard (is_card c) (λ _. either StillCard fitting g (λ _. r Call)) (λ _. r State)) (λ _. r Buffer)

  -- A card stays a card.
  pub stays_card : (q : Asked) → is_card (act q c).card ≡ true
  unfolding act told_refused load_refused step_refused step_done run_refused run_done respond_refused ready waiting
  stays_card create = created_card
  stays_card (set_environment n v) =
      admitted_card true _ _ _ (λ r. k) (λ t. environment_done_card (rests c (barred (runs c) true t)) n v)
  stays_card (load s) = admitted_card true _ _ _ (λ r. k) (λ t. load_by_card s (judge s) refl)
  stays_card (step buffer) = admitted_card (lends buffer) _ _ _ (λ r. k) (λ t. step_card c k)
  stays_card (run_up_to n buffer) = admitted_card (lends buffer) _ _ _ (λ r. k) (λ t. steps_card n 0 c k)
  stays_card (respond response buffer) =
      admitted_card (lends buffer) _ _ _ (λ r. k) (λ t.
      respond_by_card (first (runs c) _ t) (barred (is_empty c.run.hand) true (second (runs c) _ t)) response buffer (reply response))
  stays_card end = admitted_card true (runs c) _ _ (λ r. k) (λ t. ends_card c (card_running c k (runs_page c t)).0)
  stays_card (read_variable n id) = k

-- So does one after any list of calls.
pub stays_card_all : (ks : List Asked) (c : Card) → is_card c ≡ true → is_card (after_all ks c) ≡ true
unfolding after_all
stays_card_all [] c e = e
stays_card_all (k ∷ ks) c e = stays_card_all ks (act k c).card (stays_card c e k)
