-- The canonical form: a state that is a card is in it, and two canonical states with the same card are the same state.
-- Assumes nothing.
use Prim.Native.Nat.{ℕ, ◌≤◌}
use mathlib.Core.Bool.{true, false, cond}
use mathlib.Core.List.{List}
use mathlib.Core.Path.{◌≡◌, refl, sym, ap, ◌∙◌}
use native.Mathlib.Omega.{arith}
use lib.ListN.{length, take, drop}
use lib.Seq.{length-take-le}
use lib.Dec.{leb, eqb}
use borrow.Author.Tests.{eqb-true, leb-true}
use Rattle.pour.specs.Pour.{padded, zeros}
use Rattle.pour.proofs.PadLaws.{padded_take}
use Rattle.pour.proofs.StrideLaws.{all_first, all_rest}
use Rattle.rules.specs.Card.{Card, with_environment}
use Rattle.rules.specs.IsCard.{is_card, areas_fine}
use Rattle.slots.specs.Slots.{tidy_slots}
use Rattle.slots.proofs.Same.{slots_same}
use Rattle.records.specs.Records.{tidy_records}
use Rattle.records.proofs.Same.{records_same}
use Rattle.trail.specs.Trail.{tidy_trail}
use Rattle.trail.proofs.Same.{trail_same}
use Rattle.word.specs.Word.{word_in, guard_of, hand_of, tidy_guard, tidy_hand, tidy_wanted}
use Rattle.word.proofs.Parts.{guard_marked, guard_long, hand_marked, hand_long, wanted_word, wanted_long}
use Rattle.word.proofs.Same.{guard_same, hand_same, word_same}
use Rattle.state.specs.declared.State.{State}
use Rattle.state.specs.State.{page_of, run_of, card, tidy_page, tidy_words, tidy_areas, tidy, Is, no_card, card_of}

-- the parts of a canonical state
module _ (m : State) (t : tidy m ≡ true) where
  page_of_tidy : tidy_page m.page m.len ≡ true
  unfolding tidy
  page_of_tidy = all_first (tidy_page m.page m.len) (cond (tidy_areas m) (cond (tidy_trail m.trail) (tidy_words m) false) false) t

  past_page : cond (tidy_areas m) (cond (tidy_trail m.trail) (tidy_words m) false) false ≡ true
  unfolding tidy
  past_page = all_rest (tidy_page m.page m.len) (cond (tidy_areas m) (cond (tidy_trail m.trail) (tidy_words m) false) false) t

  areas_tidy : tidy_areas m ≡ true
  areas_tidy = all_first (tidy_areas m) (cond (tidy_trail m.trail) (tidy_words m) false) past_page

  past_areas : cond (tidy_trail m.trail) (tidy_words m) false ≡ true
  past_areas = all_rest (tidy_areas m) (cond (tidy_trail m.trail) (tidy_words m) false) past_page

  trail_tidy : tidy_trail m.trail ≡ true
  trail_tidy = all_first (tidy_trail m.trail) (tidy_words m) past_areas

  words_tidy : tidy_words m ≡ true
  words_tidy = all_rest (tidy_trail m.trail) (tidy_words m) past_areas

  past_environment : cond (tidy_slots m.temporary) (tidy_records m.permanent) false ≡ true
  unfolding tidy_areas
  past_environment = all_rest (tidy_slots m.environment) (cond (tidy_slots m.temporary) (tidy_records m.permanent) false) areas_tidy

  past_guard : cond (tidy_hand m.hand) (tidy_wanted m.wanted) false ≡ true
  unfolding tidy_words
  past_guard = all_rest (tidy_guard m.guard) (cond (tidy_hand m.hand) (tidy_wanted m.wanted) false) words_tidy

  pub tidy_is : Is m (card m)
  unfolding card run_of tidy_areas tidy_words
  tidy_is =
      record {
        environment = refl;
        temporary = refl;
        permanent = refl;
        guard = refl;
        history = refl;
        page = refl;
        unit = refl;
        place = refl;
        hand = refl;
        wanted = refl;
        tidy_environment = all_first (tidy_slots m.environment) (cond (tidy_slots m.temporary) (tidy_records m.permanent) false) areas_tidy;
        tidy_temporary = all_first (tidy_slots m.temporary) (tidy_records m.permanent) past_environment;
        tidy_permanent = all_rest (tidy_slots m.temporary) (tidy_records m.permanent) past_environment;
        tidy_guarded = all_first (tidy_guard m.guard) (cond (tidy_hand m.hand) (tidy_wanted m.wanted) false) words_tidy;
        tidy_history = trail_tidy;
        tidy_run = page_of_tidy;
        tidy_held = all_first (tidy_hand m.hand) (tidy_wanted m.wanted) past_guard;
        tidy_want = all_rest (tidy_hand m.hand) (tidy_wanted m.wanted) past_guard;
      }

module _ (m : State) (c : Card) (is : Is m c) where
  pub is_tidy : tidy m ≡ true
  unfolding tidy tidy_areas tidy_words
  is_tidy =
      simp (is.tidy_run, is.tidy_environment, is.tidy_temporary, is.tidy_permanent, is.tidy_history, is.tidy_guarded, is.tidy_held, is.tidy_want) refl

  pub is_card_lem : card m ≡ c
  unfolding card run_of
  is_card_lem =
      rw (is.environment, is.temporary, is.permanent, is.guard, is.history, is.page, is.unit, is.place, is.hand, is.wanted)

  pub is_card_of : card_of m ≡ c
  unfolding card_of
  is_card_of = rw is_tidy is_card_lem

-- a page with zeros behind it
module _ (p : List ℕ) (n : ℕ) (t : tidy_page p n ≡ true) where
  past_length : cond (leb n 4096) (zeros (drop n p)) false ≡ true
  unfolding tidy_page
  past_length = all_rest (eqb (length p) 4096) (cond (leb n 4096) (zeros (drop n p)) false) t

  page_long : length p ≡ 4096
  unfolding tidy_page
  page_long = eqb-true (length p) 4096 (all_first (eqb (length p) 4096) (cond (leb n 4096) (zeros (drop n p)) false) t)

  page_short : n ≤ 4096
  page_short = leb-true n 4096 (all_first (leb n 4096) (zeros (drop n p)) past_length)

  page_count : length (take n p) ≡ n
  page_count = length-take-le n p (omega (arith, page_long, page_short))

  page_laid : padded 4096 (take n p) ≡ p
  page_laid = padded_take 4096 n p page_long page_short (all_rest (leb n 4096) (zeros (drop n p)) past_length)

guards_same : (p q : List ℕ) → tidy_guard p ≡ true → tidy_guard q ≡ true → guard_of p ≡ guard_of q → p ≡ q
guards_same p q s t = guard_same p q (guard_long p s ∙ sym (guard_long q t)) (guard_marked p s) (guard_marked q t)

hands_same : (p q : List ℕ) → tidy_hand p ≡ true → tidy_hand q ≡ true → hand_of p ≡ hand_of q → p ≡ q
hands_same p q s t = hand_same p q (hand_long p s ∙ sym (hand_long q t)) (hand_marked p s) (hand_marked q t)

wanted_same : (p q : List ℕ) → tidy_wanted p ≡ true → tidy_wanted q ≡ true → word_in p ≡ word_in q → p ≡ q
wanted_same p q s t = word_same p q (wanted_long p s ∙ sym (wanted_long q t)) (wanted_word p s) (wanted_word q t)

module _ (m n : State) (s : Is m (card m)) (t : Is n (card n)) (e : card m ≡ card n) where
  page_same : m.page ≡ n.page
  unfolding card run_of page_of
  page_same = sym (page_laid _ _ s.tidy_run) ∙ ap (λ (c : Card). padded 4096 c.run.page) e ∙ page_laid _ _ t.tidy_run

  len_same : m.len ≡ n.len
  unfolding card run_of page_of
  len_same = sym (page_count _ _ s.tidy_run) ∙ ap (λ (c : Card). length c.run.page) e ∙ page_count _ _ t.tidy_run

  state_same : m ≡ n
  unfolding card run_of
  state_same =
      let environment : m.environment ≡ n.environment = slots_same _ _ s.tidy_environment t.tidy_environment (ap (λ (c : Card). c.environment) e) in
      let temporary : m.temporary ≡ n.temporary = slots_same _ _ s.tidy_temporary t.tidy_temporary (ap (λ (c : Card). c.temporary) e) in
      let permanent : m.permanent ≡ n.permanent = records_same _ _ s.tidy_permanent t.tidy_permanent (ap (λ (c : Card). c.permanent) e) in
      let trail : m.trail ≡ n.trail = trail_same _ _ s.tidy_history t.tidy_history (ap (λ (c : Card). c.history) e) in
      let guard : m.guard ≡ n.guard = guards_same _ _ s.tidy_guarded t.tidy_guarded (ap (λ (c : Card). c.guard) e) in
      let hand : m.hand ≡ n.hand = hands_same _ _ s.tidy_held t.tidy_held (ap (λ (c : Card). c.run.hand) e) in
      let wanted : m.wanted ≡ n.wanted = wanted_same _ _ s.tidy_want t.tidy_want (ap (λ (c : Card). c.wanted) e) in
      let unit : m.unit ≡ n.unit = ap (λ (c : Card). c.run.unit) e in
      let place : m.place ≡ n.place = ap (λ (c : Card). c.run.place) e in
      rw (page_same, len_same, environment, temporary, permanent, trail, guard, hand, wanted, unit, place)

-- canonical states with the same card are the same state
pub canonical_same : (m n : State) → tidy m ≡ true → tidy n ≡ true → card m ≡ card n → m ≡ n
canonical_same m n s t e = state_same m n (tidy_is m s) (tidy_is n t) e

-- a card without an environment is no card
pub no_card_lem : is_card no_card ≡ false
unfolding no_card with_environment is_card areas_fine
no_card_lem = refl
