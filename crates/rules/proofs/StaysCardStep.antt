-- What a step or a response comes to is a card, where it was asked of a card.
-- Assumes nothing.
use mathlib.Core.Path.{◌≡◌, refl, ap, ◌∙◌}
use mathlib.Core.Bool.{true, false, true≢false, false≢true}
use mathlib.Core.List.{List, [], ◌∷◌}
use Prim.Native.Nat.{ℕ, ◌+◌, ◌%◌, ◌≤◌, ◌<◌}
use native.Mathlib.Omega.{arith}
use lib.ListN.{length, get_or, drop, take, length-set}
use lib.Dec.{ltb, eqb}
use borrow.Author.Tests.{eqb-true, ltb-true, ltb-false, le-leb, lt-ltb, eq-eqb}
use Rattle.rules.specs.Bytes.{part, hex, hex_to}
use Rattle.rules.specs.Numbers.{code, no_error}
use Rattle.rules.specs.Tlv.{head_at}
use Rattle.rules.specs.Tlvs.{Tlvs, done, past, tlv, tlvs, plain, count_in, count}
use Rattle.rules.specs.Shape.{attribute}
use Rattle.rules.specs.Page.{service, page_row, anchor_in, holds, unit_count, is_place, password, keep_list}
use Rattle.rules.specs.Reference.{mark, unit_from, own_unit, is_own, target_by, target}
use Rattle.rules.specs.Loader.{judge}
use Rattle.rules.specs.Handler.{handle}
use Rattle.rules.specs.Card.{Slot, free, held, Record, Guard, unlocked, locked, Hand, empty, by_code, History, Card, with_environment, with_temporary, with_guard, with_history, with_run, with_wanted, at_rest, is_empty, in_hand}
use Rattle.rules.specs.Store.{area, read, unserved, worse, writing, longest, Written}
use Rattle.rules.specs.Value.{complaint, joined, shortest}
use Rattle.rules.specs.Keep.{guard_by, rested}
use Rattle.rules.specs.Trail.{left, last, lowered}
use Rattle.rules.specs.Command.{Execute, execute_of, result_complaint, indicator_complaint, execute_complaint, simple_tlvs, allowed, enveloped, command}
use Rattle.rules.specs.Step.{Move, onwards, jump, away, back, send, finish, Plan, refuses, does, runs_out, unless, storing, branch_by, branch, perform, setting_complaint, set_variable, list_at, get_length, cases_complaint, choose, chosen, branch_on_slot, branch_on_value, exit, execute}
use Rattle.rules.specs.Step.{ByteCode, setting_variables, going_back, branching, exiting, executing, getting_length, unknown, byte_code, plan_by, plan_for, here, decide, with_results, answer_by, answer_for, marked, placed, entered, sending, leaving, wanting, back_to, go_back, moved, failed, applied, stepped, answered}
use Rattle.rules.specs.IsCard.{within, value_fine, slot_fine, history_fine, guard_fine, is_open, is_accepted, complaint_free, sends_by, sends, hand_fine, wanted_fine, run_fine, is_card}
use Rattle.rules.specs.declared.Target.{Target}
use Rattle.rules.specs.declared.Target.TheVariants.{Unit as Own, Lacking, Other}
use Rattle.rules.specs.declared.Action.{Action}
use Rattle.rules.specs.declared.Action.TheVariants.{Pass, Next, Quit, Back, Retry, Go}
use Rattle.rules.specs.declared.Choice.{Choice}
use Rattle.rules.specs.declared.Choice.TheVariants.{Follow, Stay, Unknown}
use Rattle.rules.specs.declared.Complaint.{Complaint}
use Rattle.rules.specs.declared.Complaint.TheVariants.{Nothing, Undefined, Secured, Misused}
use Rattle.rules.specs.declared.Refusal.{Refusal}
use Rattle.rules.specs.declared.Refusal.TheVariants.{Syntax, Variable, Anchor, Memory, Security, Disallowed, Buffer, Call, Response, State}
use Rattle.rules.proofs.Choices.{both, either}
use Rattle.rules.proofs.BlankTests.{first, second, pass}
use Rattle.rules.proofs.StaysCardParts.{AreasOf, parts_of, of_parts}
use Rattle.rules.proofs.StaysCardStore.{kept_fit, slots_set}
use Rattle.rules.proofs.StaysCardPage.{PageFine, page_fine, count_more}
use Rattle.rules.proofs.StaysCardReference.{GoRef, ChoiceRef, handle_ref, branch_ref}
use Rattle.rules.proofs.StaysCardHistory.{between, may_want, HistoryFit, history_fit, fit_history, left_fit, lowered_fit, last_wanted}
use Rattle.rules.proofs.StaysCardWrite.{over, Stored, stores, refused, none_worse, write_stored, set_all_stored, results_stored}
use Rattle.std.specs.Prelude.{Option, Some, None, Result, Ok, Err}
use Rattle.rules.specs.declared.Tlv.{Tlv}
use Rattle.rules.specs.declared.Rejection.{Rejection}
use Rattle.rules.specs.Built.{some_tlv}

-- a card whose page runs, but for the command in hand
pub record Running (c : Card) : Type 0 where
  pub areas : AreasOf c
  pub history : history_fine c.history ≡ true
  pub opened : is_open c.guard ≡ true
  pub unwanted : length c.wanted ≡ 0
  pub accepted : judge c.run.page ≡ Ok tt
  pub unit : c.run.unit < unit_count c.run.page
  pub place : is_place c.run.page c.run.unit c.run.place ≡ true

accept : (j : Result (Unit {0}) Rejection) → is_accepted j ≡ true → j ≡ Ok tt
unfolding is_accepted
accept (Ok u) e = refl
accept (Err q) e = absurd (false≢true e)

pub empty_page : judge [] ≡ Ok tt → ⊥
unfolding judge
empty_page e = let z : ◌≡◌ {A = ℕ} 0 1 = cc in omega arith

open_guard : (g : Guard) → is_open g ≡ true → guard_fine g ≡ true
unfolding is_open guard_fine
open_guard unlocked e = refl
open_guard (locked word) e = absurd (false≢true e)

module _ (c : Card) where
  run_fine_lem : (s : List ℕ) → judge s ≡ Ok tt → is_open c.guard ≡ true → length c.wanted ≡ 0 → c.run.unit < unit_count s → is_place s c.run.unit c.run.place ≡ true →
      hand_fine c c.run.hand ≡ true → run_fine c s ≡ true
  unfolding run_fine is_accepted
  run_fine_lem [] a o w u p h = absurd (empty_page a)
  run_fine_lem (x ∷ xs) a o w u p h =
      pass o (pass (eq-eqb _ _ w) (pass (ap is_accepted a) (pass (lt-ltb _ _ u) (pass p h))))

  pub running_card : Running c → hand_fine c c.run.hand ≡ true → is_card c ≡ true
  running_card r h =
      of_parts c
      (record {
        areas = r.areas;
        history = r.history;
        guard = open_guard c.guard r.opened;
        run = run_fine_lem c.run.page r.accepted r.opened r.unwanted r.unit r.place h;
      })

  fine_run : (s : List ℕ) → (length s ≡ 0 → ⊥) → run_fine c s ≡ true →
      (judge s ≡ Ok tt) × (is_open c.guard ≡ true) × (length c.wanted ≡ 0) × (c.run.unit < unit_count s) × (is_place s c.run.unit c.run.place ≡ true) × (hand_fine c c.run.hand ≡ true)
  unfolding run_fine
  fine_run [] n e = absurd (n refl)
  fine_run (x ∷ xs) n e =
      let s = x ∷ xs in
      let e1 = second (is_open c.guard) _ e in
      let e2 = second (eqb (length c.wanted) 0) _ e1 in
      let e3 = second (is_accepted (judge s)) _ e2 in
      let e4 = second (ltb c.run.unit (unit_count s)) _ e3 in (
        accept (judge s) (first (is_accepted (judge s)) _ e2),
        first (is_open c.guard) _ e,
        eqb-true _ _ (first (eqb (length c.wanted) 0) _ e1),
        ltb-true _ _ (first (ltb c.run.unit (unit_count s)) _ e3),
        first (is_place s c.run.unit c.run.place) _ e4,
        second (is_place s c.run.unit c.run.place) _ e4,
      )

  pub card_running : is_card c ≡ true → (length c.run.page ≡ 0 → ⊥) → Running c × (hand_fine c c.run.hand ≡ true)
  card_running e n =
      let p = parts_of c e in
      let r = fine_run c.run.page n p.run in
      (record { areas = p.areas; history = p.history; opened = r.1; unwanted = r.2; accepted = r.0; unit = r.3; place = r.4 }, r.5)

-- the end of a page: what is kept fits, and so does what guards it
pub rested_card : (c : Card) → AreasOf c → history_fine c.history ≡ true → guard_fine (guard_by c.run.page (password c.run.page)) ≡ true → wanted_fine c.wanted ≡ true →
    is_card (rested c) ≡ true
unfolding rested with_run with_guard with_temporary at_rest run_fine is_empty
rested_card c a h g w =
    let s = c.run.page in
    let k = kept_fit s (keep_list s) c.temporary (record { many = a.temporaries; fine = a.temporary_fine; small = a.temporary_room }) in
    of_parts (rested c)
    (record {
      areas = record {
        environments = a.environments;
        temporaries = k.many;
        permanents = a.permanents;
        environment_fine = a.environment_fine;
        temporary_fine = k.fine;
        temporary_room = k.small;
        permanent_fine = a.permanent_fine;
        permanent_room = a.permanent_room;
      };
      history = h;
      guard = g;
      run = w;
    })

none_wanted : (w : List ℕ) → length w ≡ 0 → wanted_fine w ≡ true
unfolding wanted_fine
none_wanted [] e = refl
none_wanted (x ∷ xs) e = absurd (omega arith)

pub ends_card : (c : Card) → Running c → is_card (rested c) ≡ true
ends_card c r = rested_card c r.areas r.history (page_fine c.run.page r.accepted).guarded (none_wanted c.wanted r.unwanted)

wanting_card : (c : Card) (r : List ℕ) → Running c → within 2 65 (length r) ≡ true → is_card (wanting c r).card ≡ true
unfolding wanting with_wanted
wanting_card c r k e =
    rested_card (with_wanted c r) k.areas k.history (page_fine c.run.page k.accepted).guarded (may_want r e)

-- a card with a code in variable '05'
code_short : (r : Refusal) → length (code r) ≤ longest
unfolding code hex hex_to
code_short Syntax = omega arith
code_short Variable = omega arith
code_short Anchor = omega arith
code_short Memory = omega arith
code_short Security = omega arith
code_short Disallowed = omega arith
code_short Buffer = omega arith
code_short Call = omega arith
code_short Response = omega arith
code_short State = omega arith

marked_areas : (c : Card) (bytes : List ℕ) → length bytes ≤ longest → AreasOf c → AreasOf (marked bytes c)
unfolding marked with_environment slot_fine value_fine
marked_areas c bytes l a =
    record {
      environments = length-set c.environment 5 (held 3 bytes) ∙ a.environments;
      temporaries = a.temporaries;
      permanents = a.permanents;
      environment_fine = slots_set c.environment 5 (held 3 bytes) a.environment_fine (le-leb (length bytes) longest l);
      temporary_fine = a.temporary_fine;
      temporary_room = a.temporary_room;
      permanent_fine = a.permanent_fine;
      permanent_room = a.permanent_room;
    }

marked_running : (c : Card) (bytes : List ℕ) → length bytes ≤ longest → Running c → Running (marked bytes c)
unfolding marked with_environment
marked_running c bytes l r =
    record {
      areas = marked_areas c bytes l r.areas;
      history = r.history;
      opened = r.opened;
      unwanted = r.unwanted;
      accepted = r.accepted;
      unit = r.unit;
      place = r.place;
    }

-- where a byte code may lead
abbrev MoveFine : Card → Move → Type 0
MoveFine c (onwards p) = is_place c.run.page c.run.unit p ≡ true
MoveFine c (jump k) = k < unit_count c.run.page
MoveFine c (away r) = within 2 65 (length r) ≡ true
MoveFine c back = Unit {0}
MoveFine c (send b) = (within 1 255 (length b) ≡ true) × (sends c (here c) ≡ true)
MoveFine c finish = Unit {0}

-- a reference to the page itself names one of its units
abbrev UnitBelow : ℕ → Target → Type 0
UnitBelow n (Own k) = k < n
UnitBelow n Lacking = Unit {0}
UnitBelow n Other = Unit {0}

module _ (s : List ℕ) where
  unit_from_below : (name : List ℕ) (k : ℕ) (r : Tlvs) → UnitBelow (count_in 0x0A k r) (unit_from s name k r)
  unfolding unit_from count_in
  unit_from_below name k (done p) = tt
  unit_from_below name k (past p) = tt
  unit_from_below name k (tlv tag at start stop rest) =
      both (eqb (plain tag) 0x0A)
      (λ t. rw t (either (UnitBelow (count_in 0x0A (k + 1) rest)) (holds s name (anchor_in s (some_tlv tag start stop))) {a = Own k}
      (λ _. let m = count_more s 0x0A (k + 1) rest in omega arith) (λ _. unit_from_below name (k + 1) rest)))
      (λ t. rw t (unit_from_below name k rest))

  target_by_below : PageFine s → (r : List ℕ) (p : Option ℕ) → UnitBelow (unit_count s) (target_by s r p)
  unfolding target_by own_unit unit_count count
  target_by_below f r (Some n) =
      either (UnitBelow (unit_count s)) (is_own s (take n r)) {b = Other}
      (λ _. either (UnitBelow (unit_count s)) (eqb (length (drop (n + 1) r)) 0) {a = Own 0} (λ _. f.units) (λ _. unit_from_below (drop (n + 1) r) 0 (page_row s)))
      (λ _. tt)
  target_by_below f r None = tt

  target_below : PageFine s → (r : List ℕ) → UnitBelow (unit_count s) (target s r)
  unfolding target
  target_below f r = target_by_below f r (mark r)

-- what a move comes to
entered_card : (c : Card) → Running c → (k : ℕ) → k < unit_count c.run.page → is_card (entered c k) ≡ true
unfolding entered with_run hand_fine
entered_card c r k l =
    running_card (entered c k)
    (record {
      areas = r.areas;
      history = r.history;
      opened = r.opened;
      unwanted = r.unwanted;
      accepted = r.accepted;
      unit = l;
      place = (page_fine c.run.page r.accepted).entry k;
    })
    refl

placed_card : (c : Card) → Running c → (p : ℕ) → is_place c.run.page c.run.unit p ≡ true → is_card (placed c p) ≡ true
unfolding placed with_run hand_fine
placed_card c r p l =
    running_card (placed c p)
    (record { areas = r.areas; history = r.history; opened = r.opened; unwanted = r.unwanted; accepted = r.accepted; unit = r.unit; place = l }) refl

with_history_lem : (c : Card) → Running c → (h : History) → HistoryFit h → Running (with_history c h)
unfolding with_history
with_history_lem c r h f =
    record { areas = r.areas; history = fit_history h f; opened = r.opened; unwanted = r.unwanted; accepted = r.accepted; unit = r.unit; place = r.place }

-- whether a byte code sends a command depends on the page alone
sends_by_page : (c d : Card) → d.run.page ≡ c.run.page → (tag start stop : ℕ) (b : ByteCode) → sends_by d tag start stop b ≡ sends_by c tag start stop b
unfolding sends_by result_complaint writing
sends_by_page c d e tag start stop setting_variables = refl
sends_by_page c d e tag start stop going_back = refl
sends_by_page c d e tag start stop branching = refl
sends_by_page c d e tag start stop exiting = refl
sends_by_page c d e tag start stop executing = rw e
sends_by_page c d e tag start stop getting_length = refl
sends_by_page c d e tag start stop unknown = refl

sends_page : (c d : Card) → d.run.page ≡ c.run.page → (h : Option Tlv) → sends d h ≡ sends c h
unfolding sends
sends_page c d e (Some h) = sends_by_page c d e h.tag h.start h.stop (byte_code h.tag)
sends_page c d e None = refl

sending_card : (c : Card) → Running c → (b : List ℕ) → within 1 255 (length b) ≡ true → sends c (here c) ≡ true → is_card (sending c b) ≡ true
unfolding sending with_run hand_fine here
sending_card c r b l s =
    running_card (sending c b)
    (record { areas = r.areas; history = r.history; opened = r.opened; unwanted = r.unwanted; accepted = r.accepted; unit = r.unit; place = r.place })
    (pass l (sends_page c (sending c b) refl (here c) ∙ s))

back_to_card : (c : Card) → Running c → (r : List ℕ) → within 2 65 (length r) ≡ true → (t : Target) → UnitBelow (unit_count c.run.page) t → is_card (back_to c r t).card ≡ true
unfolding back_to
back_to_card c k r e (Own j) l = entered_card c k j l
back_to_card c k r e Lacking l = wanting_card c r k e
back_to_card c k r e Other l = wanting_card c r k e

go_back_card : (c : Card) → Running c → is_card (go_back c).card ≡ true
unfolding go_back
go_back_card c r =
    let f = history_fit c.history r.history in
    both (eqb c.history.pointer 0)
    (λ t. rw t (ends_card c r))
    (λ t. rw t
    (back_to_card (with_history c (lowered c.history)) (with_history_lem c r (lowered c.history) (lowered_fit c.history f)) (last c.history) (last_wanted c.history f t)
    (target c.run.page (last c.history)) (unfold with_history in target_below c.run.page (page_fine c.run.page r.accepted) (last c.history))))

leaving_running : (c : Card) → Running c → Running (leaving c)
unfolding leaving
leaving_running c r =
    with_history_lem c r (left c.run.page c.run.unit c.history)
    (left_fit c.run.page c.run.unit c.history (page_fine c.run.page r.accepted) (history_fit c.history r.history))

done_short : length no_error ≤ longest
unfolding no_error hex hex_to
done_short = omega arith

moved_card : (c : Card) → Running c → (m : Move) → MoveFine c m → is_card (moved c m).card ≡ true
unfolding moved marked leaving with_environment with_history
moved_card c r (onwards p) e = placed_card (marked no_error c) (marked_running c no_error done_short r) p e
moved_card c r (jump k) e = entered_card (leaving (marked no_error c)) (leaving_running (marked no_error c) (marked_running c no_error done_short r)) k e
moved_card c r (away w) e = wanting_card (leaving (marked no_error c)) w (leaving_running (marked no_error c) (marked_running c no_error done_short r)) e
moved_card c r back e = go_back_card (marked no_error c) (marked_running c no_error done_short r)
moved_card c r (send b) e = sending_card c r b e.0 e.1
moved_card c r finish e = ends_card (marked no_error c) (marked_running c no_error done_short r)

-- what a byte code asks of a card
data Fit (c : Card) : Plan → Type 0 where
  fits_no : (r : Refusal) → Fit c (refuses r)
  fits_out : Fit c runs_out
  fits : (p : List Record) (t : List Slot) → AreasOf (over c p t) → (m : Move) → MoveFine c m → Fit c (does (over c p t) m)

move_over : (c : Card) (p : List Record) (t : List Slot) (m : Move) → MoveFine c m → MoveFine (over c p t) m
unfolding here
move_over c p t (onwards q) e = e
move_over c p t (jump k) e = e
move_over c p t (away r) e = e
move_over c p t back e = e
move_over c p t (send b) e = (e.0, sends_page c (over c p t) refl (here c) ∙ e.1)
move_over c p t finish e = e

applied_card : (c : Card) → Running c → {p : Plan} → Fit c p → is_card (applied c p).card ≡ true
unfolding applied failed
applied_card c r (fits_no x) = ends_card (marked (code x) c) (marked_running c (code x) (code_short x) r)
applied_card c r fits_out = ends_card c r
applied_card c r (fits p t a m e) =
    moved_card (over c p t)
    (record { areas = a; history = r.history; opened = r.opened; unwanted = r.unwanted; accepted = r.accepted; unit = r.unit; place = r.place }) m (move_over c p t m e)

-- the byte codes
code_is : ℕ → ByteCode → Type 0
code_is tag setting_variables = Unit {0}
code_is tag going_back = Unit {0}
code_is tag branching = tag ≡ 0x44
code_is tag exiting = Unit {0}
code_is tag executing = Unit {0}
code_is tag getting_length = Unit {0}
code_is tag unknown = Unit {0}

byte_code_is : (tag : ℕ) → code_is tag (byte_code tag)
unfolding byte_code code_is
byte_code_is tag =
    either (code_is tag) (eqb tag 0x40) {a = setting_variables} (λ _. tt)
    (λ _. either (code_is tag) (eqb (plain tag) 0x43) {a = going_back} (λ _. tt)
    (λ _. either (code_is tag) (eqb tag 0x44) {a = branching} (λ t. eqb-true tag 0x44 t)
    (λ _. either (code_is tag) (eqb (plain tag) 0x45) {a = exiting} (λ _. tt)
    (λ _. either (code_is tag) (eqb (plain tag) 0x46) {a = executing} (λ _. tt)
    (λ _. either (code_is tag) (eqb tag 0x48) {a = getting_length} {b = unknown} (λ _. tt) (λ _. tt))))))

unless_fit : (c : Card) (k : Complaint) {p : Plan} → (k ≡ Nothing → Fit c p) → Fit c (unless k p)
unfolding unless
unless_fit c Nothing h = h refl
unless_fit c Undefined h = fits_no Variable
unless_fit c Secured h = fits_no Security
unless_fit c Misused h = fits_no Syntax

storing_fit : (c : Card) (m : Move) → MoveFine c m → {w : Written} → Stored c w → Fit c (storing m w)
unfolding storing
storing_fit c m e (stores p t a) = fits p t a m e
storing_fit c m e refused = fits_no Memory

with_results_fit : (c : Card) {w : Written} → Stored c w → {p : Plan} → Fit c p → Fit c (with_results w p)
unfolding with_results
with_results_fit c h (fits_no r) = fits_no r
with_results_fit c h fits_out = fits_out
with_results_fit c h (fits p t a m e) = storing_fit c m e h

module _ (c : Card) (r : Running c) where
  abbrev s : List ℕ
  s = c.run.page

  page : PageFine s
  page = page_fine s r.accepted

  stays : (m : Move) → MoveFine c m → Fit c (does c m)
  stays m e = fits c.permanent c.temporary r.areas m e

  branch_by_fit : (w : List ℕ) → within 2 65 (length w) ≡ true → (t : Target) → UnitBelow (unit_count s) t → Fit c (branch_by c w t)
  unfolding branch_by
  branch_by_fit w e (Own k) l = stays (jump k) l
  branch_by_fit w e Lacking l = fits_no Anchor
  branch_by_fit w e Other l = stays (away w) e

  branch_fit : (w : List ℕ) → within 2 65 (length w) ≡ true → Fit c (branch c w)
  unfolding branch
  branch_fit w e = branch_by_fit w e (target s w) (target_below s page w)

  perform_fit : (next : ℕ) → is_place s c.run.unit next ≡ true → (again : Move) → MoveFine c again → (a : Action) → GoRef s a → Fit c (perform c next again a)
  unfolding perform
  perform_fit next n again e Pass g = stays finish tt
  perform_fit next n again e Next g = stays (onwards next) n
  perform_fit next n again e Quit g = stays finish tt
  perform_fit next n again e Back g = stays back tt
  perform_fit next n again e Retry g = stays again e
  perform_fit next n again e (Go start stop) g = branch_fit (part s start stop) g

  chosen_fit : (next : ℕ) → is_place s c.run.unit next ≡ true → (x : Choice) → ChoiceRef s x → Fit c (chosen c next x)
  unfolding chosen
  chosen_fit next n (Follow start stop) g = branch_fit (part s start stop) g
  chosen_fit next n Stay g = stays (onwards next) n
  chosen_fit next n Unknown g = fits_no Variable

  branch_on_slot_fit : (next : ℕ) → is_place s c.run.unit next ≡ true → (row : Tlvs) → ((bytes : List ℕ) → ChoiceRef s (choose c bytes row)) → (v : Slot) → Fit c (branch_on_slot c next row v)
  unfolding branch_on_slot
  branch_on_slot_fit next n row g free = fits_no Variable
  branch_on_slot_fit next n row g (held type bytes) = chosen_fit next n (choose c bytes row) (g bytes)

  command_size : (x : Execute) → 1 ≤ length (command c x)
  unfolding command enveloped
  command_size x = omega arith

  free_of : (k : Complaint) → k ≡ Nothing → complaint_free k ≡ true
  unfolding complaint_free
  free_of k e = rw e

  -- a byte code at the card's place
  module _ (tag start stop : ℕ) (at : here c ≡ some_tlv tag start stop) where
    next : is_place s c.run.unit stop ≡ true
    unfolding here
    next = page.next c.run.unit c.run.place tag start stop r.place at

    execute_fit : byte_code tag ≡ executing → Fit c (execute c (execute_of s tag start stop))
    unfolding execute execute_complaint sends sends_by
    execute_fit b =
        let x = execute_of s tag start stop in
        unless_fit c (execute_complaint c x)
        (λ e.
        let k = none_worse (result_complaint c x) (indicator_complaint c (simple_tlvs s x)) e in
        let z : sends c (here c) ≡ true = rw (at, b) (free_of (result_complaint c x) k.0) in
        either (Fit c) (allowed c x)
        (λ _. either (Fit c) (ltb 255 (length (command c x))) (λ _. fits_no Memory)
        (λ t. stays (send (command c x)) (between 1 255 (length (command c x)) (command_size x) (ltb-false 255 (length (command c x)) t), z)))
        (λ _. fits_no Disallowed))

    plan_by_fit : (b : ByteCode) → byte_code tag ≡ b → Fit c (plan_by c tag start stop b)
    unfolding plan_by set_variable get_length branch_on_value exit here code_is
    plan_by_fit setting_variables e =
        let row = tlvs 1 s start stop in
        unless_fit c (setting_complaint c [] row)
        (λ k. storing_fit c (onwards stop) next (set_all_stored c page.served row [] k c.permanent c.temporary r.areas))
    plan_by_fit going_back e = stays back tt
    plan_by_fit branching e =
        let row = tlvs 0 s (start + 1) stop in
        let n = get_or s start 0 in
        let t : tag ≡ 0x44 = rw e at (byte_code_is tag) in
        let p = page.code c.run.unit c.run.place 0x44 start stop r.place (rw t at at) in
        unless_fit c (worse (unserved (service s) (area n)) (cases_complaint s row))
        (λ k. branch_on_slot_fit stop next row (λ bytes. branch_ref c bytes p.0 p.1 c.run.place start stop p.3 p.2) (read c n))
    plan_by_fit exiting e =
        either (Fit c) (eqb (attribute s tag start stop % 2) 1) (λ _. stays finish tt)
        (λ _. perform_fit stop next finish tt (handle s c.run.unit 0x10) (handle_ref s r.accepted c.run.unit 0x10))
    plan_by_fit executing e = execute_fit e
    plan_by_fit getting_length e =
        let list = list_at c (head_at s (start + 1) stop) in
        let n = get_or s start 0 in
        unless_fit c (worse (writing c n) (complaint c [] list))
        (λ k. storing_fit c (onwards stop) next (write_stored c r.areas page.served n 3 (shortest (length (joined c list))) (omega arith) (none_worse (writing c n) (complaint c [] list) k).0))
    plan_by_fit unknown e = fits_no Syntax

  plan_for_fit : (h : Option Tlv) → here c ≡ h → Fit c (plan_for c h)
  unfolding plan_for
  plan_for_fit (Some h) e = plan_by_fit h.tag h.start h.stop e (byte_code h.tag) refl
  plan_for_fit None e = fits_out

  pub stepped_card : is_card (stepped c).card ≡ true
  unfolding stepped decide
  stepped_card = applied_card c r (plan_for_fit (here c) refl)

  -- a response to a command that a byte code sent
  no_complaint : (k : Complaint) → complaint_free k ≡ true → k ≡ Nothing
  unfolding complaint_free
  no_complaint Nothing e = refl
  no_complaint Undefined e = absurd (false≢true e)
  no_complaint Secured e = absurd (false≢true e)
  no_complaint Misused e = absurd (false≢true e)

  sent_by : (tag start stop : ℕ) (b : ByteCode) → sends_by c tag start stop b ≡ true → result_complaint c (execute_of s tag start stop) ≡ Nothing
  unfolding sends_by
  sent_by tag start stop setting_variables e = absurd (false≢true e)
  sent_by tag start stop going_back e = absurd (false≢true e)
  sent_by tag start stop branching e = absurd (false≢true e)
  sent_by tag start stop exiting e = absurd (false≢true e)
  sent_by tag start stop executing e = no_complaint (result_complaint c (execute_of s tag start stop)) e
  sent_by tag start stop getting_length e = absurd (false≢true e)
  sent_by tag start stop unknown e = absurd (false≢true e)

  in_hand_lem : (h : Hand) → is_empty h ≡ false → hand_fine c h ≡ true → (within 1 255 (length (in_hand h)) ≡ true) × (sends c (here c) ≡ true)
  unfolding is_empty hand_fine in_hand
  in_hand_lem empty n f = absurd (true≢false n)
  in_hand_lem (by_code b) n f = (first (within 1 255 (length b)) _ f, second (within 1 255 (length b)) _ f)

  answer_for_fit : (within 1 255 (length (in_hand c.run.hand)) ≡ true) × (sends c (here c) ≡ true) → (g : ℕ) (w : List ℕ) (after h : Option Tlv) → here c ≡ h → Fit c (answer_for c g w after h)
  unfolding answer_for answer_by sends execute_of
  answer_for_fit f g w after (Some h) e =
      let x = execute_of s h.tag h.start h.stop in
      let k : sends_by c h.tag h.start h.stop (byte_code h.tag) ≡ true = rw e at f.1 in
      with_results_fit c (results_stored c page.served r.areas x g w after (sent_by h.tag h.start h.stop (byte_code h.tag) k))
      (perform_fit h.stop (next h.tag h.start h.stop e) (send (in_hand c.run.hand)) f (handle s c.run.unit g) (handle_ref s r.accepted c.run.unit g))
  answer_for_fit f g w after None e = fits_out

  pub answered_card : hand_fine c c.run.hand ≡ true → is_empty c.run.hand ≡ false → (g : ℕ) (w : List ℕ) (after : Option Tlv) → is_card (answered c g w after).card ≡ true
  unfolding answered
  answered_card f n g w after = applied_card c r (answer_for_fit (in_hand_lem c.run.hand n f) g w after (here c) refl)
