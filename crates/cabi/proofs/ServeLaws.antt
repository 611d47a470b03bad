-- The calls for C, in the shape of what their proofs need.
-- Assumes nothing.
use Prim.Native.Nat.{ℕ, ◌<◌, ◌≤◌}
use mathlib.Core.Bool.{Bool, true, false, cond, true≢false, false≢true}
use mathlib.Core.List.{List, []}
use mathlib.Core.Path.{◌≡◌, refl, sym, ap, ◌∙◌}
use native.Mathlib.Omega.{arith}
use lib.ListN.{length}
use lib.Dec.{ltb, leb, eqb}
use borrow.Author.Tests.{eq-eqb, ne_eqb, eqb-true, eqb-false, lt-leb, le-leb, leb-true, not-true, not-false}
use Rattle.rules.specs.Numbers.{number, told_number, loaded_number, outcome_number, offset}
use Rattle.rules.specs.Card.{Card, created}
use Rattle.rules.specs.IsCard.{is_card}
use Rattle.rules.specs.Calls.{Asked, create, set_environment, load, step, run_up_to, respond, end, read_variable, Answer, told, loaded, taken, ran, responded, shown, answer_number, Did, over, lends, hidden, told_refused, load_refused, step_refused, run_refused, respond_refused, act, refused_buffer, act_in}
use Rattle.rules.specs.declared.Shown.{Shown}
use Rattle.rules.proofs.Choices.{both}
use Rattle.rules.proofs.StaysCard.{created_card, stays_card}
use Rattle.rules.proofs.Refusals.{read_as_it_was}
use Rattle.pour.specs.Pour.{poured}
use Rattle.pour.proofs.StrideLaws.{all_first, all_rest}
use Rattle.state.specs.declared.State.{State}
use Rattle.state.specs.State.{Is, card, card_of, tidy_page}
use Rattle.state.proofs.Canonical.{is_tidy}
use Rattle.buffer.specs.Buffer.{size, decoded, encoded}
use Rattle.buffer.proofs.Codec.{decode_encode, length_encoded}
use Rattle.machine.specs.declared.Machine.{Machine}
use Rattle.machine.specs.declared.Settled.{Settled}
use Rattle.machine.specs.declared.Begun.{Begun}
use Rattle.machine.specs.declared.Taken.{Taken}
use Rattle.machine.specs.declared.Gone.{Gone}
use Rattle.machine.specs.declared.Answered.{Answered}
use Rattle.machine.specs.Meets.{Meets}
use Rattle.machine.proofs.Parts.{sound_is}
use Rattle.packing.specs.Packed.{laid, outcome_kind, command_length, kind_of, size_of, high_of, packed}
use Rattle.cabi.specs.Serves.{has_room, served, finds, reaches, lent_after, Serves}
use Rattle.cabi.proofs.Small.{card_small}
use Rattle.cabi.proofs.Changes.{low_keeps, end_keeps, set_keeps, load_keeps, none_high}

-- a state that is a card is laid in the buffer and comes back
module _ (m : State) (c : Card) (is : Is m c) (k : is_card c ≡ true) where
  laid_length : length (encoded m) ≡ size
  laid_length = length_encoded m (is_tidy m c is)

  page_fits : m.len < 65536
  unfolding tidy_page
  page_fits =
      let l : m.len ≤ 4096 = leb-true _ _ (all_first (leb m.len 4096) _ (all_rest (eqb (length m.page) 4096) _ is.tidy_run)) in
      omega arith

  laid_back : decoded (encoded m) ≡ m
  laid_back =
      let s = card_small c k in
      let u = is.unit in
      let p = is.place in
      let i = s.unit in
      let j = s.place in
      decode_encode m (is_tidy m c is) page_fits (omega arith) (omega arith)

  laid_is : Is (decoded (encoded m)) c
  laid_is = rw laid_back is

-- a state buffer of another length
module _ (s : List ℕ) (l : length s ≡ size → ⊥) where
  pub refused : (k : Asked) (lent : List ℕ) → served k s lent ≡ refused_buffer k (card_of (decoded s))
  unfolding served act_in
  refused k lent = both (has_room k lent) (λ t. simp (t, ne_eqb (length s) size l) refl) (λ t. simp t refl)

  pub barred : (k : Asked) → reaches k s ≡ false
  unfolding reaches
  barred k = simp (ne_eqb (length s) size l) refl

  misfit : (k : Asked) (lent : List ℕ) (r : ℕ) → r ≡ packed (refused_buffer k (card_of (decoded s))).answer → lent ≡ lent_after (refused_buffer k (card_of (decoded s))).answer lent → Serves k s lent r s lent
  misfit k lent r e f =
      let d = refused k lent in
      record {
        answered = e ∙ ap (λ (x : Did). packed x.answer) (sym d);
        laid = f ∙ ap (λ (x : Did). lent_after x.answer lent) (sym d);
        long = refl;
        goes = λ h. absurd (false≢true (sym (barred k) ∙ h));
        stays = λ h. refl;
      }

  pub create_misfit : Serves create s [] 32 s []
  unfolding refused_buffer told_refused packed answer_number told_number number kind_of size_of high_of lent_after
  create_misfit = misfit create [] 32 refl refl

  pub set_misfit : (n : ℕ) (value : List ℕ) → Serves (set_environment n value) s [] 32 s []
  unfolding refused_buffer told_refused packed answer_number told_number number kind_of size_of high_of lent_after
  set_misfit n value = misfit (set_environment n value) [] 32 refl refl

  pub load_misfit : (page : List ℕ) → Serves (load page) s [] 32 s []
  unfolding refused_buffer load_refused packed answer_number loaded_number offset number kind_of size_of high_of lent_after
  load_misfit page = misfit (load page) [] 32 refl refl

  pub step_misfit : (buffer : List ℕ) → Serves (step buffer) s buffer 1056 s buffer
  unfolding refused_buffer step_refused packed answer_number outcome_number outcome_kind command_length number kind_of size_of high_of lent_after
  step_misfit buffer = misfit (step buffer) buffer 1056 refl refl

  pub run_misfit : (n : ℕ) (buffer : List ℕ) → Serves (run_up_to n buffer) s buffer 1056 s buffer
  unfolding refused_buffer run_refused packed answer_number outcome_number outcome_kind command_length number kind_of size_of high_of lent_after
  run_misfit n buffer = misfit (run_up_to n buffer) buffer 1056 refl refl

  pub respond_misfit : (response buffer : List ℕ) → Serves (respond response buffer) s buffer 1056 s buffer
  unfolding refused_buffer respond_refused packed answer_number outcome_number outcome_kind command_length number kind_of size_of high_of lent_after
  respond_misfit response buffer = misfit (respond response buffer) buffer 1056 refl refl

  pub end_misfit : Serves end s [] 32 s []
  unfolding refused_buffer told_refused packed answer_number told_number number kind_of size_of high_of lent_after
  end_misfit = misfit end [] 32 refl refl

  pub read_misfit : (n : ℕ) (id lent : List ℕ) → Serves (read_variable n id) s lent 32 s lent
  unfolding refused_buffer hidden packed answer_number number kind_of size_of high_of lent_after
  read_misfit n id lent = misfit (read_variable n id) lent 32 refl refl

-- an answer that is packed as 0 is 0
packed_low : (a : Answer) → packed a ≡ 0 → ltb (answer_number a) 32 ≡ true
unfolding packed
packed_low a e = let z : answer_number a ≡ 0 = omega arith in rw z refl

-- a state buffer of the named length
module _ (s : List ℕ) (l : length s ≡ size) where
  reached : (k : Asked) → reaches k s ≡ finds k (card_of (decoded s))
  unfolding reaches
  reached k = simp (eq-eqb (length s) size l) refl

  done : (k : Asked) (lent : List ℕ) → has_room k lent ≡ true → served k s lent ≡ act k (card_of (decoded s))
  unfolding served act_in
  done k lent h = simp (h, eq-eqb (length s) size l) refl

  pub create_serves : (m : State) → Is m created → (t : List ℕ) → t ≡ encoded m → Serves create s [] 0 t []
  unfolding has_room act packed answer_number told_number kind_of size_of high_of lent_after finds
  create_serves m is t e =
      let d = done create [] refl in
      record {
        answered = ap (λ (x : Did). packed x.answer) (sym d);
        laid = ap (λ (x : Did). lent_after x.answer []) (sym d);
        long = ap length e ∙ laid_length m created is created_card ∙ sym l;
        goes = λ h. rw (d, e) (laid_is m created is created_card);
        stays = λ h. absurd (true≢false (sym (reached create) ∙ h));
      }

  -- a call that the machine answers
  module _ (k : Asked) (lent : List ℕ) (p : has_room k lent ≡ true) (q : finds k (card_of (decoded s)) ≡ is_card (card_of (decoded s))) (x : State) (e : x ≡ decoded s) (a : Answer) (m : Machine) (met : Meets k (record { state = x }) a m) where
    abbrev c : Card
    c = card_of (decoded s)

    its : a ≡ (act k c).answer
    its = met.answered ∙ ap (λ (y : State). (act k (card_of y)).answer) e

    gone : is_card c ≡ true → Is m.state (act k c).card
    gone y = rw e at (met.goes (rw (← e) at y))

    found : (b : Bool) → reaches k s ≡ b → is_card c ≡ b
    found b y = sym q ∙ sym (reached k) ∙ y

    -- it is laid in the buffer where w says so
    module _ (w : Bool) (high : w ≡ true → ltb (answer_number a) 32 ≡ true) (low : w ≡ false → (act k c).card ≡ c) (r : ℕ) (f : r ≡ packed a) (t : List ℕ) (g : t ≡ cond w (encoded m.state) s) (u : List ℕ) (h : u ≡ lent_after a lent) where
      answer_is : r ≡ packed (served k s lent).answer
      answer_is = f ∙ ap packed its ∙ ap (λ (y : Did). packed y.answer) (sym (done k lent p))

      lent_is : u ≡ lent_after (served k s lent).answer lent
      lent_is = h ∙ ap (λ (y : Answer). lent_after y lent) its ∙ ap (λ (y : Did). lent_after y.answer lent) (sym (done k lent p))

      on_card : w ≡ true → is_card c ≡ true
      on_card y =
          both (is_card c) (λ o. o)
          (λ o. absurd (true≢false (sym (high y) ∙ ap (λ (n : Answer). ltb (answer_number n) 32) its ∙ none_high c o k (q ∙ o))))

      changed : w ≡ true → Serves k s lent r t u
      changed y =
          let z : t ≡ encoded m.state = rw y at g in
          let j = on_card y in
          let i = stays_card c j k in
          record {
            answered = answer_is;
            laid = lent_is;
            long = ap length z ∙ laid_length m.state (act k c).card (gone j) i ∙ sym l;
            goes = λ o. rw (done k lent p, z) (laid_is m.state (act k c).card (gone j) i);
            stays = λ o. absurd (true≢false (sym j ∙ found false o));
          }

      unchanged : w ≡ false → Serves k s lent r t u
      unchanged y =
          let z : t ≡ s = rw y at g in
          record {
            answered = answer_is;
            laid = lent_is;
            long = ap length z;
            goes = λ o. rw (done k lent p, z, low y) (sound_is (decoded s) (found true o));
            stays = λ o. z;
          }

      serve : Serves k s lent r t u
      serve = both w changed unchanged

  module _ (x : State) (e : x ≡ decoded s) where
    -- a write, an end or a load: the buffer changes where the answer is 0
    done_serves : (k : Asked) → has_room k [] ≡ true → finds k (card_of (decoded s)) ≡ is_card (card_of (decoded s)) → (a : Answer) (m : Machine) → Meets k (record { state = x }) a m → lent_after a [] ≡ [] →
        ((packed (act k (card_of (decoded s))).answer ≡ 0 → ⊥) → (act k (card_of (decoded s))).card ≡ card_of (decoded s)) → (r : ℕ) → r ≡ packed a → (t : List ℕ) → t ≡ cond (eqb r 0) (encoded m.state) s → Serves k s [] r t []
    done_serves k p q a m met i low r h t g =
        serve k [] p q x e a m met (eqb r 0) (λ y. packed_low a (sym h ∙ eqb-true r 0 y)) (λ y. low (λ z. eqb-false r 0 y (h ∙ ap packed (its k [] p q x e a m met) ∙ z))) r h t g [] (sym i)

    pub set_serves : (n : ℕ) (value : List ℕ) (o : Settled) → Meets (set_environment n value) (record { state = x }) (told o.told) o.machine →
        (r : ℕ) → r ≡ packed (told o.told) → (t : List ℕ) → t ≡ cond (eqb r 0) (encoded o.machine.state) s → Serves (set_environment n value) s [] r t []
    unfolding has_room finds lent_after
    set_serves n value o met = done_serves (set_environment n value) refl refl (told o.told) o.machine met refl (set_keeps (card_of (decoded s)) n value)

    pub end_serves : (o : Settled) → Meets end (record { state = x }) (told o.told) o.machine →
        (r : ℕ) → r ≡ packed (told o.told) → (t : List ℕ) → t ≡ cond (eqb r 0) (encoded o.machine.state) s → Serves end s [] r t []
    unfolding has_room finds lent_after
    end_serves o met = done_serves end refl refl (told o.told) o.machine met refl (end_keeps (card_of (decoded s)))

    pub load_serves : (page : List ℕ) (o : Begun) → Meets (load page) (record { state = x }) (loaded o.loaded) o.machine →
        (r : ℕ) → r ≡ packed (loaded o.loaded) → (t : List ℕ) → t ≡ cond (eqb r 0) (encoded o.machine.state) s → Serves (load page) s [] r t []
    unfolding has_room finds lent_after
    load_serves page o met = done_serves (load page) refl refl (loaded o.loaded) o.machine met refl (load_keeps (card_of (decoded s)) page)

    module _ (before after : List ℕ) (w : Bool) (t : List ℕ) (r : ℕ) where
      pub step_serves : (o : Taken) (ref : List ℕ) → Meets (step before) (record { state = x }) (taken o.stepped after ref) o.machine → w ≡ ltb (outcome_number o.stepped.outcome) 32 →
          t ≡ cond w (encoded o.machine.state) s → ((b i : List ℕ) → r ≡ packed (taken o.stepped b i)) → Serves (step before) s before r t after
      unfolding has_room finds lent_after answer_number
      step_serves o ref met f g h =
          let k = step before in
          let a = taken o.stepped after ref in
          serve k before refl refl x e a o.machine met w (λ y. sym f ∙ y) (λ y. low_keeps k (card_of (decoded s)) a (its k before refl refl x e a o.machine met) (sym f ∙ y)) r (h after ref) t g after refl

      pub run_serves : (most : ℕ) (o : Gone) (ref : List ℕ) → Meets (run_up_to most before) (record { state = x }) (ran o.ran after ref) o.machine → w ≡ ltb (outcome_number o.ran.outcome) 32 →
          t ≡ cond w (encoded o.machine.state) s → ((b i : List ℕ) → r ≡ packed (ran o.ran b i)) → Serves (run_up_to most before) s before r t after
      unfolding has_room finds lent_after answer_number
      run_serves most o ref met f g h =
          let k = run_up_to most before in
          let a = ran o.ran after ref in
          serve k before refl refl x e a o.machine met w (λ y. sym f ∙ y) (λ y. low_keeps k (card_of (decoded s)) a (its k before refl refl x e a o.machine met) (sym f ∙ y)) r (h after ref) t g after refl

      pub respond_serves : (response : List ℕ) (o : Answered) (ref : List ℕ) → Meets (respond response before) (record { state = x }) (responded o.outcome after ref) o.machine → w ≡ ltb (outcome_number o.outcome) 32 →
          t ≡ cond w (encoded o.machine.state) s → ((b i : List ℕ) → r ≡ packed (responded o.outcome b i)) → Serves (respond response before) s before r t after
      unfolding has_room finds lent_after answer_number
      respond_serves response o ref met f g h =
          let k = respond response before in
          let a = responded o.outcome after ref in
          serve k before refl refl x e a o.machine met w (λ y. sym f ∙ y) (λ y. low_keeps k (card_of (decoded s)) a (its k before refl refl x e a o.machine met) (sym f ∙ y)) r (h after ref) t g after refl

    module _ (n : ℕ) (id lent : List ℕ) (room : 255 ≤ length lent) (o : Shown) (met : Meets (read_variable n id) (record { state = x }) (shown o) (record { state = x })) (r : ℕ) (h : r ≡ packed (shown o)) where
      pub read_serves : o.number ≡ 0 → (u : List ℕ) → u ≡ poured lent 0 o.bytes → Serves (read_variable n id) s lent r s u
      unfolding has_room lends finds lent_after over poured
      read_serves z u g =
          serve (read_variable n id) lent (le-leb _ _ room) refl x e (shown o) (record { state = x }) met false (λ y. absurd (false≢true y)) (λ y. read_as_it_was n id (card_of (decoded s))) r h s refl u
          (g ∙ sym (rw (eq-eqb _ _ z) refl))

      pub read_refused : (o.number ≡ 0 → ⊥) → Serves (read_variable n id) s lent r s lent
      unfolding has_room lends finds lent_after
      read_refused z =
          serve (read_variable n id) lent (le-leb _ _ room) refl x e (shown o) (record { state = x }) met false (λ y. absurd (false≢true y)) (λ y. read_as_it_was n id (card_of (decoded s))) r h s refl lent
          (sym (rw (ne_eqb _ _ z) refl))

  -- a value buffer under 255 bytes
  pub read_short : (n : ℕ) (id lent : List ℕ) → length lent < 255 → Serves (read_variable n id) s lent 32 s lent
  unfolding served has_room lends finds refused_buffer hidden packed answer_number number kind_of size_of high_of lent_after
  read_short n id lent h =
      let d : served (read_variable n id) s lent ≡ refused_buffer (read_variable n id) (card_of (decoded s)) = simp (lt-leb _ _ h) refl in
      record {
        answered = ap (λ (x : Did). packed x.answer) (sym d);
        laid = ap (λ (x : Did). lent_after x.answer lent) (sym d);
        long = refl;
        goes = λ o. rw d (sound_is (decoded s) (sym (reached (read_variable n id)) ∙ o));
        stays = λ o. refl;
      }

-- the buffer of a call that changed nothing, and of one that did
module _ (w : Bool) (a s : List ℕ) where
  pub settle_kept : w ≡ false → s ≡ cond w a s
  settle_kept e = sym (rw e refl)

  pub settle_laid : w ≡ true → (t : List ℕ) → t ≡ a → t ≡ cond w a s
  settle_laid e t f = f ∙ sym (rw e refl)

pub ruleset misfit_laws = (create_misfit, set_misfit, load_misfit, step_misfit, run_misfit, respond_misfit, end_misfit, read_misfit, read_short)

pub ruleset serve_laws = (create_serves, set_serves, end_serves, load_serves, step_serves, run_serves, respond_serves, read_serves, read_refused)

pub ruleset settle_laws = (settle_kept, settle_laid, not-true, not-false)
