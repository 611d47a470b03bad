-- Demand 3: one service's values and the guarded variables make no difference to calls that do not ask for them, and the service's records stay.
-- Assumes nothing.
use mathlib.Core.Path.{◌≡◌, refl, sym, ap, ap₂, ◌∙◌}
use mathlib.Core.Bool.{Bool, true, false, cond, ◌&&◌, false≢true, true≢false}
use mathlib.Core.List.{List, [], ◌∷◌, map}
use Prim.Native.Nat.{ℕ}
use native.Mathlib.Omega.{arith}
use lib.ListN.{length, set, replicate, length-replicate}
use lib.Dec.{ltb, leb, eqb}
use borrow.Author.Tests.{eqb-true, leb-true, le-leb, lt-ltb, ne_eqb}
use Rattle.rules.specs.Loader.{judge}
use Rattle.rules.specs.Card.{Slot, free, held, Record, none, stored, Guard, unlocked, locked, History, Hand, empty, by_code, Card, at_rest, is_empty, runs, with_environment, with_temporary, with_guard, with_run, with_wanted}
use Rattle.rules.specs.Store.{Area, environmental, permanently, temporarily, string, area, longest}
use Rattle.rules.specs.Keep.{opened_by, started}
use Rattle.rules.specs.IsCard.{within, value_fine, record_fine, records_fine, repeats, guard_fine, run_fine, is_card, is_accepted}
use Rattle.rules.specs.Calls.{told, loaded, Asked, create, set_environment, load, step, run_up_to, respond, end, read_variable, Answer, Did, did, ready, waiting, admitted, lends, load_by, load_refused, step_refused, run_refused, respond_refused, told_refused, environment_done, seen, read_done, act, answers, after_all}
use Rattle.rules.specs.Carried.{equal, carries, presents}
use Rattle.rules.specs.Hidden.{blank_type, blank, only, records_of, unguarded, Alike, creates, reads, reads_temporary, page_in, some, loads_accepted, before, first_page, Unasked, Isolated}
use Rattle.rules.specs.declared.Refusal.{Refusal}
use Rattle.rules.specs.declared.Refusal.TheVariants.{Buffer, Call}
use Rattle.rules.proofs.Choices.{both}
use Rattle.rules.proofs.Offsets.{tests}
use Rattle.rules.proofs.BlankTests.{first, second, unbarred, two_cond, neither_left, neither_right}
use Rattle.rules.proofs.BlankStore.{veil_type, veil, veils, hidden_of, hiddens, look_veil}
use Rattle.rules.proofs.BlankStep.{see, Safe}
use Rattle.rules.proofs.BlankCalls.{is_card_see, Quiet, act_ok}
use Rattle.rules.proofs.IsolationPage.{hidden, uncarried, unopened}
use Rattle.rules.proofs.StaysCardParts.{parts_of, of_parts}
use Rattle.rules.proofs.StaysCard.{stays_card_all}
use Rattle.rules.proofs.StaysCardStore.{Numbered, numbered, slots_free, room_free, environment_card}
use Rattle.std.specs.Prelude.{Result, Ok, Err}
use Rattle.rules.specs.declared.Rejection.{Rejection}

-- a call that creates no card, reads no variable of the service and loads no page with its ID is quiet
quiet_call : (id : List ℕ) (k : Asked) → creates k ≡ false → reads id k ≡ false → carries id (page_in k) ≡ false → Quiet (hidden id) k
unfolding creates reads page_in hidden
quiet_call id create a b c = absurd (true≢false a)
quiet_call id (set_environment n value) a b c = tt
quiet_call id (load s) a b c = uncarried s id c
quiet_call id (step buffer) a b c = tt
quiet_call id (run_up_to n buffer) a b c = tt
quiet_call id (respond response buffer) a b c = tt
quiet_call id end a b c = tt
quiet_call id (read_variable n i) a b c =
    λ e.
    let h : Numbered permanently n = rw e at (numbered n) in
    let k : equal i id ≡ false = rw (le-leb 0x40 n h.0, lt-ltb n 0x80 h.1) at b in
    both (eqb (length i) 0) (λ t. rw t) (λ t. rw (t, k))

-- the same of each call of a list
record Quiets (id : List ℕ) (ks : List Asked) : Type 0 where
  uncreated : some creates ks ≡ false
  unread : some (reads id) ks ≡ false
  uncarried : some (λ k. carries id (page_in k)) ks ≡ false

quiet_head : (id : List ℕ) (k : Asked) (ks : List Asked) → Quiets id (k ∷ ks) → Quiet (hidden id) k
unfolding some
quiet_head id k ks q =
    quiet_call id k (neither_left _ (some creates ks) q.uncreated) (neither_left _ (some (reads id) ks) q.unread)
    (neither_left _ (some (λ j. carries id (page_in j)) ks) q.uncarried)

quiet_tail : (id : List ℕ) (k : Asked) (ks : List Asked) → Quiets id (k ∷ ks) → Quiets id ks
unfolding some
quiet_tail id k ks q =
    record {
      uncreated = neither_right (creates k) _ q.uncreated;
      unread = neither_right (reads id k) _ q.unread;
      uncarried = neither_right (carries id (page_in k)) _ q.uncarried;
    }

no_id : (id : List ℕ) → hidden id [] ≡ false
unfolding hidden
no_id id = refl

-- From a page's acceptance on, only the service's values are hidden.
module _ (id : List ℕ) (m : List Record) where
  record After (ks : List Asked) (c : Card) : Type 0 where
    answered : answers ks (see (hidden id) c) ≡ answers ks c
    kept : hiddens (hidden id) (after_all ks c).permanent ≡ m

  all_after : (ks : List Asked) (c : Card) → Safe (hidden id) m c → Quiets id ks → After ks c
  unfolding answers after_all
  all_after [] c h q = record { answered = refl; kept = h.kept }
  all_after (k ∷ ks) c h q =
      let o = act_ok (hidden id) (no_id id) m c h k (quiet_head id k ks q) in
      let i = all_after ks (act k c).card o.safe (quiet_tail id k ks q) in
      record { answered = rw o.sees (ap (λ (l : List Answer). (act k c).answer ∷ l) i.answered); kept = i.kept }

-- A card at rest. `shadow` is how one sees it who knows neither the service's values nor what is guarded.
abbrev idle : List Slot → List Record → List Slot → Guard → History → List ℕ → Card
idle e p t g h w = record { environment = e; permanent = p; temporary = t; guard = g; history = h; run = at_rest; wanted = w }

abbrev shadow : List ℕ → List Slot → List Record → List Slot → Guard → History → List ℕ → Card
shadow id e p t g h w = idle e (veils (hidden id) p) (unguarded g t) unlocked h w

-- what follows one call is what follows the other, and the service's records end as m
record Like (id : List ℕ) (m : List Record) (ks : List Asked) (x y : Did) : Type 0 where
  answered : ◌≡◌ {A = List Answer} (x.answer ∷ answers ks x.card) (y.answer ∷ answers ks y.card)
  kept : hiddens (hidden id) (after_all ks x.card).permanent ≡ m

-- calls that ask for nothing hidden of a card that a password may guard
record Asks (id : List ℕ) (g : Guard) (ks : List Asked) : Type 0 where
  quiets : Quiets id ks
  untouched : some reads_temporary (before ks) ≡ false
  shut : presents g (first_page ks) ≡ false

asks_tail : (id : List ℕ) (g : Guard) (k : Asked) (ks : List Asked) → loads_accepted k ≡ false → Asks id g (k ∷ ks) → Asks id g ks
unfolding before first_page some
asks_tail id g k ks e q =
    record {
      quiets = quiet_tail id k ks q.quiets;
      untouched = neither_right (reads_temporary k) _ (rw (e, before) at q.untouched);
      shut = rw (e, first_page) at q.shut;
    }

-- Both are cards.
module _ (e : List Slot) (p : List Record) (t : List Slot) (h : History) (w : List ℕ) where
  opened : (g : Guard) → is_card (idle e p t g h w) ≡ true → is_card (idle e p (unguarded g t) unlocked h w) ≡ true
  unfolding unguarded run_fine at_rest guard_fine
  opened unlocked c = c
  opened (locked word) c =
      let a = parts_of (idle e p t (locked word) h w) c in
      of_parts (idle e p (replicate (length t) free) unlocked h w)
      (record {
        areas = record {
          environments = a.areas.environments;
          temporaries = length-replicate (length t) free ∙ a.areas.temporaries;
          permanents = a.areas.permanents;
          environment_fine = a.areas.environment_fine;
          temporary_fine = slots_free (length t);
          temporary_room = rw (room_free (length t)) (omega arith);
          permanent_fine = a.areas.permanent_fine;
          permanent_room = a.areas.permanent_room;
        };
        history = a.history;
        guard = refl;
        run = a.run;
      })

shadow_card : (id : List ℕ) (e : List Slot) (p : List Record) (t : List Slot) (g : Guard) (h : History) (w : List ℕ) → is_card (idle e p t g h w) ≡ true → is_card (shadow id e p t g h w) ≡ true
shadow_card id e p t g h w c = opened e (veils (hidden id) p) t h w g (is_card_see (hidden id) (idle e p t g h w) ∙ c)

-- Before the first accepted page.
module _ (id : List ℕ) where
  Fine : List Asked → Type 0
  Fine ks =
      (e : List Slot) (p : List Record) (t : List Slot) (g : Guard) (h : History) (w : List ℕ) → is_card (idle e p t g h w) ≡ true → Asks id g ks →
      (answers ks (idle e p t g h w) ≡ answers ks (shadow id e p t g h w)) × (hiddens (hidden id) (after_all ks (idle e p t g h w)).permanent ≡ hiddens (hidden id) p)

  module _ (ks : List Asked) (ih : Fine ks) (e : List Slot) (p : List Record) (t : List Slot) (g : Guard) (h : History) (w : List ℕ) (card : is_card (idle e p t g h w) ≡ true) where
    abbrev c : Card
    c = idle e p t g h w

    abbrev d : Card
    d = shadow id e p t g h w

    -- the card stays as it was
    stays : Asks id g ks → (a : Answer) → Like id (hiddens (hidden id) p) ks (did a c) (did a d)
    unfolding Fine
    stays q a = let i = ih e p t g h w card q in record { answered = ap (λ (l : List Answer). a ∷ l) i.0; kept = i.1 }

    admitted_like : (lent fitting : Bool) (refuse refuse' : Refusal → Did) (go go' : Did) →
        Like id (hiddens (hidden id) p) ks (cond lent (cond fitting go (refuse Call)) (refuse Buffer)) (cond lent (cond fitting go' (refuse' Call)) (refuse' Buffer)) →
        Like id (hiddens (hidden id) p) ks (admitted lent c fitting refuse go) (admitted lent d fitting refuse' go')
    unfolding admitted
    admitted_like lent fitting refuse refuse' go go' k = rw (card, shadow_card id e p t g h w card) k

    environment_like : Asks id g ks → (n : ℕ) (v : List ℕ) → Like id (hiddens (hidden id) p) ks (environment_done n v c) (environment_done n v d)
    unfolding environment_done told_refused with_environment at_rest Fine
    environment_like q n v =
        two_cond (Like id (hiddens (hidden id) p) ks) (ltb 0x3F n) (stays q _)
        (two_cond (Like id (hiddens (hidden id) p) ks) (eqb n 5) (stays q _)
        (both (ltb longest (length v))
        (λ t'. rw t' (stays q _))
        (λ t'. rw t' (
        let i = ih (set e n (held 3 v)) p t g h w (environment_card c n v card refl (omega tests)) q in
        record { answered = ap (λ (l : List Answer). told (Ok tt) ∷ l) i.0; kept = i.1 }))))

    loaded_like : (s : List ℕ) (j : Result (Unit {0}) Rejection) → judge s ≡ j → Asks id g (load s ∷ ks) → Like id (hiddens (hidden id) p) ks (load_by s c j) (load_by s d j)
    unfolding load_by started with_run with_wanted with_guard with_temporary first_page loads_accepted page_in is_accepted opened_by
    loaded_like s (Ok u) j q =
        let shut : presents g s ≡ false = rw (j, first_page) at q.shut in
        let o = all_after id (hiddens (hidden id) p) ks (started s c) (record { clean = quiet_head id (load s) ks q.quiets; kept = refl }) (quiet_tail id (load s) ks q.quiets) in
        let e : answers ks (started s c) ≡ answers ks (started s d) = rw (← unopened g s t shut) (sym o.answered) in
        record { answered = ap (λ (l : List Answer). loaded (Ok tt) ∷ l) e; kept = o.kept }
    loaded_like s (Err e) j q = stays (asks_tail id g (load s) ks (rw j) q) _

    seen_like : (n : ℕ) (i : List ℕ) → Asks id g (read_variable n i ∷ ks) → (a : Area) → area n ≡ a → seen a c n i ≡ seen a d n i
    unfolding seen before loads_accepted page_in is_accepted judge some reads_temporary
    seen_like n i q environmental x = refl
    seen_like n i q permanently x = rw (look_veil (hidden id) i n (quiet_head id (read_variable n i) ks q.quiets x) p)
    seen_like n i q temporarily x =
        let k : Numbered temporarily n = rw x at (numbered n) in
        let y = neither_left (leb 0x80 n && ltb n 0xC0) _ q.untouched in
        absurd (true≢false (rw (le-leb 0x80 n k.0, lt-ltb n 0xC0 k.1) at y))
    seen_like n i q string x = refl

    act_like : (k : Asked) → Asks id g (k ∷ ks) → Like id (hiddens (hidden id) p) ks (act k c) (act k d)
    unfolding act told_refused load_refused step_refused run_refused respond_refused runs ready waiting at_rest read_done loads_accepted page_in judge is_accepted
    act_like create q = absurd (quiet_head id create ks q.quiets)
    act_like (set_environment n v) q = admitted_like true true _ _ _ _ (environment_like (asks_tail id g (set_environment n v) ks refl q) n v)
    act_like (load s) q = admitted_like true true _ _ _ _ (loaded_like s (judge s) refl q)
    act_like (step buffer) q =
        let r = asks_tail id g (step buffer) ks refl q in
        admitted_like (lends buffer) false _ _ _ _ (two_cond (Like id (hiddens (hidden id) p) ks) (lends buffer) (stays r _) (stays r _))
    act_like (run_up_to n buffer) q =
        let r = asks_tail id g (run_up_to n buffer) ks refl q in
        admitted_like (lends buffer) false _ _ _ _ (two_cond (Like id (hiddens (hidden id) p) ks) (lends buffer) (stays r _) (stays r _))
    act_like (respond response buffer) q =
        let r = asks_tail id g (respond response buffer) ks refl q in
        admitted_like (lends buffer) false _ _ _ _ (two_cond (Like id (hiddens (hidden id) p) ks) (lends buffer) (stays r _) (stays r _))
    act_like end q = admitted_like true false _ _ _ _ (stays (asks_tail id g end ks refl q) _)
    act_like (read_variable n i) q =
        rw (card, shadow_card id e p t g h w card, seen_like n i q (area n) refl) (stays (asks_tail id g (read_variable n i) ks refl q) _)

  all_fine : (ks : List Asked) → Fine ks
  unfolding Fine answers after_all
  all_fine [] e p t g h w card q = (refl, refl)
  all_fine (k ∷ ks) e p t g h w card q = let i = act_like ks (all_fine ks) e p t g h w card k q in (i.answered, i.kept)

-- a card at rest has no more than its areas, its history and the reference wanted
no_hand : (h : Hand) → is_empty h ≡ true → h ≡ empty
unfolding is_empty
no_hand empty e = refl
no_hand (by_code b) e = absurd (false≢true e)

at_rest_lem : (c : Card) → is_card c ≡ true → c.run.page ≡ [] → c ≡ idle c.environment c.permanent c.temporary c.guard c.history c.wanted
unfolding run_fine at_rest
at_rest_lem c k e =
    let r : run_fine c [] ≡ true = rw e at (parts_of c k).run in
    let r1 = second (eqb c.run.unit 0) _ r in
    let r2 = second (eqb c.run.place 0) _ r1 in
    let u = eqb-true _ _ (first (eqb c.run.unit 0) _ r) in
    let p = eqb-true _ _ (first (eqb c.run.place 0) _ r1) in
    let h = no_hand c.run.hand (first (is_empty c.run.hand) _ r2) in
    λ i. record {
      environment = c.environment;
      permanent = c.permanent;
      temporary = c.temporary;
      guard = c.guard;
      history = c.history;
      run = record { page = e i; unit = u i; place = p i; hand = h i };
      wanted = c.wanted;
    }

-- on a card every record has an ID and a type that it may have
module _ (id : List ℕ) where
  is_hidden : (i : List ℕ) → within 1 16 (length i) ≡ true → hidden id i ≡ equal i id
  unfolding hidden within
  is_hidden i h = rw (ne_eqb (length i) 0 (λ e. let k = leb-true 1 (length i) (first (leb 1 (length i)) _ h) in omega arith))

  record_fine_lem : (r : Record) → record_fine r ≡ true → (veil (hidden id) r ≡ blank id r) × (hidden_of (hidden id) r ≡ only id r)
  unfolding record_fine veil veil_type blank blank_type hidden_of only value_fine
  record_fine_lem none h = (refl, refl)
  record_fine_lem (stored i n type bytes) h =
      let h1 = second (within 0x40 0x7F n) _ h in
      let h2 = second (within 1 16 (length i)) _ h1 in
      (rw (is_hidden i (first (within 1 16 (length i)) _ h1), first (ltb type 5) _ h2), rw (is_hidden i (first (within 1 16 (length i)) _ h1)))

  records_fine_lem : (rs : List Record) → records_fine rs ≡ true → (veils (hidden id) rs ≡ map (blank id) rs) × (hiddens (hidden id) rs ≡ map (only id) rs)
  unfolding records_fine veils hiddens
  records_fine_lem [] h = (refl, refl)
  records_fine_lem (r ∷ rs) h =
      let i = record_fine_lem r (first (record_fine r) _ h) in
      let j = records_fine_lem rs (unbarred (repeats r rs) _ (second (record_fine r) _ h)) in
      (ap₂ ◌∷◌ i.0 j.0, ap₂ ◌∷◌ i.1 j.1)

  -- one of the two cards, and how it is seen
  one : (c : Card) (ks : List Asked) → is_card c ≡ true → c.run.page ≡ [] → Asks id c.guard ks →
      (answers ks c ≡ answers ks (shadow id c.environment c.permanent c.temporary c.guard c.history c.wanted)) × (records_of id (after_all ks c) ≡ records_of id c)
  unfolding records_of Fine
  one c ks k e q =
      let b = idle c.environment c.permanent c.temporary c.guard c.history c.wanted in
      let r : c ≡ b = at_rest_lem c k e in
      let f = all_fine id ks c.environment c.permanent c.temporary c.guard c.history c.wanted (ap is_card (sym r) ∙ k) q in
      let x = records_fine_lem c.permanent (parts_of c k).areas.permanent_fine in
      let y = records_fine_lem (after_all ks c).permanent (parts_of (after_all ks c) (stays_card_all ks c k)).areas.permanent_fine in
      (ap (answers ks) r ∙ f.0, sym y.1 ∙ ap (λ (z : Card). hiddens (hidden id) (after_all ks z).permanent) r ∙ f.1 ∙ x.1)

-- Demand 3.
pub isolation : (id : List ℕ) (c d : Card) (ks : List Asked) → Alike id c d → Unasked id c d ks → Isolated id c d ks
isolation id c d ks a u =
    let q : Quiets id ks = record { uncreated = u.uncreated; unread = u.unread; uncarried = u.uncarried } in
    let f = one id c ks a.card_c a.rest_c (record { quiets = q; untouched = u.untouched; shut = u.shut_c }) in
    let g = one id d ks a.card_d a.rest_d (record { quiets = q; untouched = u.untouched; shut = u.shut_d }) in
    let p : veils (hidden id) c.permanent ≡ veils (hidden id) d.permanent =
    (records_fine_lem id c.permanent (parts_of c a.card_c).areas.permanent_fine).0 ∙ a.permanent ∙ sym (records_fine_lem id d.permanent (parts_of d a.card_d).areas.permanent_fine).0 in
    let e : shadow id c.environment c.permanent c.temporary c.guard c.history c.wanted ≡ shadow id d.environment d.permanent d.temporary d.guard d.history d.wanted =
    λ i. idle (a.environment i) (p i) (a.temporary i) unlocked (a.history i) (a.wanted i) in
    record { same_answers = f.0 ∙ ap (answers ks) e ∙ sym g.0; kept_c = f.1; kept_d = g.1 }
