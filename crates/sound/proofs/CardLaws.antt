-- The parts of a state together: they are sound where the state is a card.
-- Assumes nothing.
use Prim.Native.Nat.{ℕ, ◌≤◌}
use mathlib.Core.Bool.{Bool, true, false, cond}
use mathlib.Core.List.{List, [], ◌∷◌}
use mathlib.Core.Path.{◌≡◌, refl, sym, ap, ◌∙◌}
use native.Mathlib.Omega.{arith}
use lib.ListN.{length, take, drop, length-drop}
use lib.Dec.{ltb, leb, eqb}
use borrow.Author.Tests.{le-leb, eq-eqb, ne_eqb, eqb-true, not-true, not-false}
use Rattle.leaf.proofs.Cases.{both}
use Rattle.pour.proofs.StrideLaws.{length_each, false_both, same_or_false}
use Rattle.rules.specs.Tlvs.{plain}
use Rattle.rules.specs.Page.{unit_count, is_place}
use Rattle.rules.specs.Loader.{judge}
use Rattle.rules.specs.Card.{Card, Hand, empty, by_code}
use Rattle.rules.specs.Store.{room, record_room, room_limit}
use Rattle.rules.specs.Step.{setting_variables, going_back, branching, exiting, executing, getting_length, unknown, byte_code, here}
use Rattle.rules.specs.Command.{execute_of}
use Rattle.rules.specs.IsCard.{slots_fine, records_fine, history_fine, guard_fine, is_accepted, complaint_free, sends_by, sends, hand_fine, run_fine, areas_fine, is_card}
use Rattle.slots.specs.Slots.{slot_in, slots, tidy_slots, sound_slots}
use Rattle.records.specs.Records.{record_in, records, tidy_records, sound_records}
use Rattle.trail.specs.Trail.{history_of, tidy_trail, sound_trail}
use Rattle.word.specs.Word.{word_in, is_marked, guard_of, hand_of, tidy_guard, tidy_hand, tidy_wanted}
use Rattle.word.proofs.Parts.{guard_long}
use Rattle.execute.proofs.ToldLaws.{result_page}
use Rattle.state.specs.declared.State.{State}
use Rattle.state.specs.State.{page_of, run_of, card, tidy_page, tidy_words, tidy_areas, tidy, card_of}
use Rattle.state.proofs.Canonical.{no_card_lem}
use Rattle.sound.specs.Sound.{sound_areas, sound_words, sound_rest, sound_place, sends_in, sound_hand, sound_run}
use Rattle.sound.proofs.RunLaws.{word_room}
use Rattle.std.specs.Prelude.{Option, Some, None}
use Rattle.rules.specs.declared.Tlv.{Tlv}

-- no byte code but '46' and 'C6' sends
not_executing : (c : Card) (tag start stop : ℕ) (a b d e f : Bool) →
    sends_by c tag start stop (cond a setting_variables (cond b going_back (cond d branching (cond e exiting (cond f getting_length unknown))))) ≡ false
unfolding sends_by
not_executing c tag start stop true b d e f = refl
not_executing c tag start stop false true d e f = refl
not_executing c tag start stop false false true e f = refl
not_executing c tag start stop false false false true f = refl
not_executing c tag start stop false false false false true = refl
not_executing c tag start stop false false false false false = refl

executed : (tag : ℕ) → plain tag ≡ 0x46 → byte_code tag ≡ executing
unfolding byte_code plain
executed tag e =
    let a : tag ≡ 0x40 → ⊥ = λ q. omega arith in
    let b : tag ≡ 0x44 → ⊥ = λ q. omega arith in
    simp (e, ne_eqb _ _ a, ne_eqb _ _ b)

not_executed : (c : Card) (tag start stop : ℕ) → eqb (plain tag) 0x46 ≡ false → sends_by c tag start stop (byte_code tag) ≡ false
unfolding byte_code
not_executed c tag start stop t =
    rw t (not_executing c tag start stop (eqb tag 0x40) (eqb (plain tag) 0x43) (eqb tag 0x44) (eqb (plain tag) 0x45) (eqb tag 0x48))

sends_in_lem : (c : Card) (h : Option Tlv) → sends c h ≡ sends_in c.run.page h
unfolding sends sends_by sends_in
sends_in_lem c None = refl
sends_in_lem c (Some h) =
    both (eqb (plain h.tag) 0x46)
    (λ t. rw (executed h.tag (eqb-true (plain h.tag) 0x46 t), t) (ap complaint_free (result_page c (execute_of c.run.page h.tag h.start h.stop))))
    (λ t. rw (not_executed c h.tag h.start h.stop t, t))

hand_in : (c : Card) (h : Hand) → hand_fine c h ≡ sound_hand c.run.page c.run.unit c.run.place h
unfolding hand_fine sound_hand here
hand_in c empty = refl
hand_in c (by_code b) = rw (sends_in_lem c (here c))

grouped : (a b c d : Bool) → cond a (cond b (cond c d false) false) false ≡ cond (cond a (cond b c false) false) d false
grouped true true c d = refl
grouped true false c d = refl
grouped false b c d = refl

run_in : (m : State) (s : List ℕ) → s ≡ page_of m → run_fine (card m) s ≡ sound_run s m.guard m.hand m.wanted m.unit m.place
unfolding run_fine sound_run sound_rest sound_place card run_of
run_in m [] e = refl
run_in m (x ∷ xs) e =
    rw (hand_in (card m) (hand_of m.hand), ← e, grouped (is_accepted (judge (x ∷ xs))) (ltb m.unit (unit_count (x ∷ xs))) (is_place (x ∷ xs) m.unit m.place) (sound_hand (x ∷ xs) m.unit m.place (hand_of m.hand)))

slots_long : (a : List ℕ) → length (slots a) ≡ 64
unfolding slots
slots_long a = length_each slot_in 64 260 a

records_long : (a : List ℕ) → length (records a) ≡ 64
unfolding records
records_long a = length_each record_in 64 280 a

-- the tests of each part side by side, first those of its canonical form
areas_sorted : (a b c d e f g h : Bool) →
    cond (cond a (cond b c false) false) (cond d (cond e (cond f (cond g h false) false) false) false) false ≡
    cond (cond a d false) (cond (cond b e false) (cond f (cond (cond c g false) h false) false) false) false
areas_sorted false b c d e f g h = refl
areas_sorted true b c false e f g h = false_both (cond b c false)
areas_sorted true false c true e f g h = refl
areas_sorted true true c true false f g h = false_both c
areas_sorted true true c true true false g h = false_both c
areas_sorted true true true true true true g h = refl
areas_sorted true true false true true true g h = refl

parts_sorted : (a b c d e f g h : Bool) →
    cond (cond a (cond b (cond c d false) false) false) (cond e (cond f (cond g h false) false) false) false ≡
    cond a (cond (cond b e false) (cond (cond c f false) (cond (cond d g false) h false) false) false) false
parts_sorted false b c d e f g h = refl
parts_sorted true false c d e f g h = refl
parts_sorted true true c d false f g h = false_both (cond c d false)
parts_sorted true true false d true f g h = refl
parts_sorted true true true d true false g h = false_both d
parts_sorted true true true true true true g h = refl
parts_sorted true true true false true true g h = refl

areas_in : (m : State) → cond (tidy_areas m) (areas_fine (card m)) false ≡ sound_areas m.environment m.temporary m.permanent
unfolding tidy_areas areas_fine card sound_areas sound_slots sound_records
areas_in m =
    let e : length (slots m.environment) ≡ 64 = slots_long m.environment in
    let t : length (slots m.temporary) ≡ 64 = slots_long m.temporary in
    let p : length (records m.permanent) ≡ 64 = records_long m.permanent in
    simp (eq-eqb _ _ e, eq-eqb _ _ t, eq-eqb _ _ p)
    (areas_sorted (tidy_slots m.environment) (tidy_slots m.temporary) (tidy_records m.permanent) (slots_fine (slots m.environment)) (slots_fine (slots m.temporary))
    (leb (room (slots m.temporary)) room_limit) (records_fine (records m.permanent)) (leb (record_room (records m.permanent)) room_limit))

-- the guard's array has no room for more than 16 bytes
guard_in : (g : List ℕ) → tidy_guard g ≡ true → guard_fine (guard_of g) ≡ true
unfolding guard_fine guard_of
guard_in g t =
    let l : length g ≡ 18 = guard_long g t in
    let h : length (word_in (drop 1 g)) ≤ 16 = word_room (drop 1 g) 16 (length-drop 1 g ∙ omega arith) in
    both (is_marked g) (λ k. simp (k, le-leb _ _ h)) (λ k. simp k)

words_in : (m : State) → cond (tidy_words m) (guard_fine (guard_of m.guard)) false ≡ sound_words m.guard m.hand m.wanted
unfolding tidy_words sound_words
words_in m =
    both (tidy_guard m.guard) (λ t. simp (t, guard_in m.guard t) (same_or_false (cond (tidy_hand m.hand) (tidy_wanted m.wanted) false))) (λ t. simp t)

card_in : (m : State) → is_card (card_of m) ≡ cond (tidy m) (is_card (card m)) false
unfolding card_of
card_in m = both (tidy m) (λ t. simp t) (λ t. simp (t, no_card_lem))

module _ (m : State) where
  sound_is : is_card (card_of m) ≡
      cond (tidy_page m.page m.len)
      (cond (sound_areas m.environment m.temporary m.permanent)
      (cond (sound_trail m.trail)
      (cond (sound_words m.guard m.hand m.wanted) (sound_run (page_of m) m.guard m.hand m.wanted m.unit m.place) false) false) false) false
  unfolding tidy is_card card run_of sound_trail
  sound_is =
      card_in m ∙
      parts_sorted (tidy_page m.page m.len) (tidy_areas m) (tidy_trail m.trail) (tidy_words m) (areas_fine (card m)) (history_fine (history_of m.trail)) (guard_fine (guard_of m.guard)) (run_fine (card m) (page_of m)) ∙
      rw (areas_in m, words_in m, run_in m (page_of m) refl)

  module _ (p : Bool) (e : p ≡ tidy_page m.page m.len) where
    pub sound_page : p ≡ false → false ≡ is_card (card_of m)
    sound_page i = sym (sound_is ∙ simp (← e, i))

    module _ (i : p ≡ true) (a : Bool) (f : a ≡ sound_areas m.environment m.temporary m.permanent) where
      pub sound_areas_lem : a ≡ false → false ≡ is_card (card_of m)
      sound_areas_lem j = sym (sound_is ∙ simp (← e, i, ← f, j))

      module _ (j : a ≡ true) (t : Bool) (g : t ≡ sound_trail m.trail) where
        pub sound_trail_lem : t ≡ false → false ≡ is_card (card_of m)
        sound_trail_lem k = sym (sound_is ∙ simp (← e, i, ← f, j, ← g, k))

        module _ (k : t ≡ true) (w : Bool) (h : w ≡ sound_words m.guard m.hand m.wanted) where
          pub sound_words_lem : w ≡ false → false ≡ is_card (card_of m)
          sound_words_lem l = sym (sound_is ∙ simp (← e, i, ← f, j, ← g, k, ← h, l))

          pub sound_run_lem : w ≡ true → (s : List ℕ) → s ≡ take m.len m.page → (r : Bool) → r ≡ sound_run s m.guard m.hand m.wanted m.unit m.place → r ≡ is_card (card_of m)
          unfolding page_of
          sound_run_lem l s o r q = (rw o at q) ∙ sym (sound_is ∙ simp (← e, i, ← f, j, ← g, k, ← h, l))

pub ruleset sound_laws = (sound_page, sound_areas_lem, sound_trail_lem, sound_words_lem, sound_run_lem, not-true, not-false)
