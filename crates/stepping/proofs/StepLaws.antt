-- A step in place, in the shape of what its proof needs.
-- Assumes nothing.
use Prim.Native.Nat.{ℕ, ◌≤◌, ◌<◌}
use mathlib.Core.Bool.{Bool, true, false, cond, false≢true}
use mathlib.Core.List.{List, [], ◌∷◌}
use mathlib.Core.Path.{◌≡◌, refl, sym, ap, ◌∙◌}
use lib.ListN.{length, take, set}
use lib.Dec.{ltb, eqb}
use borrow.Author.Tests.{lt-ltb, le-ltb}
use Rattle.pour.specs.Pour.{poured}
use Rattle.rules.specs.declared.Outcome.{Outcome}
use Rattle.rules.specs.declared.Outcome.TheVariants.{On as GoneOn, Command, Page as Wanted, Ended, Refused}
use Rattle.rules.specs.declared.Refusal.{Refusal}
use Rattle.rules.specs.declared.Refusal.TheVariants.{Memory}
use Rattle.rules.specs.declared.Target.{Target}
use Rattle.rules.specs.declared.Target.TheVariants.{Unit as OwnUnit, Lacking, Other}
use Rattle.rules.specs.Numbers.{code, no_error}
use Rattle.rules.specs.Bytes.{part, hex, hex_to}
use Rattle.rules.specs.Tlvs.{tlvs}
use Rattle.rules.specs.Pieces.{named}
use Rattle.rules.specs.Loader.{judge}
use Rattle.rules.specs.Page.{service, entry_of}
use Rattle.rules.specs.Card.{Card, Hand, empty, by_code, held, is_empty, with_history, with_environment, with_wanted}
use Rattle.rules.specs.Reference.{target}
use Rattle.rules.specs.Trail.{last, lowered}
use Rattle.rules.specs.Store.{wrote, no_room, write}
use Rattle.rules.specs.Value.{joined, shortest}
use Rattle.rules.specs.Command.{execute_of, command}
use Rattle.rules.specs.Keep.{rested}
use Rattle.rules.specs.Step.{Effect, effect, marked, entered, leaving, wanting, back_to, go_back, failed, onwards, send, moved, refuses, does, applied, set_all, decide, stepped}
use Rattle.rules.specs.Calls.{buffer_after, goes_on}
use Rattle.leaf.proofs.Cases.{both}
use Rattle.rules.proofs.StaysCardHistory.{history_fit, last_wanted, bounds}
use Rattle.rules.proofs.StaysCardWrite.{over}
use Rattle.slots.specs.Slots.{slots, tidy_slots}
use Rattle.records.specs.Records.{records, tidy_records}
use Rattle.trail.specs.Trail.{history_of, tidy_trail}
use Rattle.word.specs.Word.{laid_marked, word_in, hand_of, tidy_wanted}
use Rattle.variable.specs.View.{bare, view}
use Rattle.leaving.specs.Leaving.{entry_for, left_by}
use Rattle.leaving.proofs.Accepted.{accepted_service}
use Rattle.state.specs.declared.State.{State}
use Rattle.state.specs.State.{Is, card, run_of, page_of}
use Rattle.state.proofs.Canonical.{is_card_lem}
use Rattle.state.proofs.Changes.{new_environment, new_wanted}
use Rattle.storing.proofs.StoreLaws.{view_is, stored_is, set_done, set_full, length_done, length_full}
use Rattle.moving.specs.Moved.{Comes}
use Rattle.moving.proofs.Parts.{entry_is, noted_as, placed_is, left_is, lowered_is}
use Rattle.sending.specs.Sent.{Sends}
use Rattle.sending.proofs.SendLaws.{send_is, command_is}
use Rattle.ways.specs.declared.Way.{Way}
use Rattle.ways.specs.declared.Way.TheVariants.{Enter, Place, End, Refuse, Away, Back, Store, Length, Send}
use Rattle.ways.specs.Way.{way_at, issued, plan_of, Inside, Short}
use Rattle.ways.proofs.Steps.{way_same, way_plan}
use Rattle.ways.proofs.Bounds.{way_inside}
use Rattle.ways.proofs.Short.{way_short}
use Rattle.parts.specs.declared.Turn.{Turn}
use Rattle.parts.specs.declared.Turn.TheVariants.{Nowhere, Unit, Page}
use Rattle.parts.specs.Parts.{laid, command_of, turn_to, turn_of}
use Rattle.parts.proofs.PartLaws.{nowhere_not_page}
use Rattle.stepping.specs.declared.Took.{Took}
use Rattle.stepping.specs.declared.Took.TheVariants.{On, Sent, Ends}
use Rattle.stepping.specs.Took.{Ready, Leads}
use Rattle.std.specs.Prelude.{Ok}
use Rattle.rules.specs.declared.Tlv.{Tlv}

-- no command in hand
idle_hand : (h : Hand) → is_empty h ≡ true → h ≡ empty
unfolding is_empty
idle_hand empty e = refl
idle_hand (by_code b) e = absurd (false≢true e)

-- going back, by the turn that it takes
turned : Card → Turn → Effect
turned c Nowhere = effect Ended (rested c)
turned c (Unit k) = effect GoneOn (entered (with_history c (lowered c.history)) k)
turned c Page = wanting (with_history c (lowered c.history)) (last c.history)

turned_to : (c : Card) (t : Target) → back_to (with_history c (lowered c.history)) (last c.history) t ≡ turned c (turn_to t)
unfolding back_to turn_to turned
turned_to c (OwnUnit k) = refl
turned_to c Lacking = refl
turned_to c Other = refl

back_is : (c : Card) → go_back c ≡ turned c (turn_of c.run.page c.history)
unfolding go_back turn_of turned
back_is c = both (eqb c.history.pointer 0) (λ t. rw t refl) (λ t. rw t (turned_to c (target c.run.page (last c.history))))

turn_here : (m : State) (turn : Turn) → turn ≡ turn_of (take m.len m.page) (history_of m.trail) → turn ≡ turn_of (marked no_error (card m)).run.page (marked no_error (card m)).history
unfolding marked with_environment card run_of page_of
turn_here m turn f = f

-- an entry that is gone back to has at most 65 bytes
last_short : (m : State) → Ready m → (turn : Turn) → turn ≡ turn_of (take m.len m.page) (history_of m.trail) → turn ≡ Page → length (last (history_of m.trail)) ≤ 65
unfolding turn_of card
last_short m r turn f y =
    let h = history_of m.trail in
    both (eqb h.pointer 0)
    (λ t. let z : turn ≡ Nowhere = rw t at f in nowhere_not_page (sym z ∙ y))
    (λ t. (bounds 2 65 (length (last h)) (last_wanted h (history_fit h r.runs.history) t)).1)

-- the parts of a way lie in the page
module _ (page : List ℕ) (len : ℕ) (environment temporary permanent : List ℕ) (unit place : ℕ) (way : Way) (e : way ≡ way_at (view (take len page) environment temporary permanent) unit place) where
  inside : Inside (length (take len page)) way
  inside = rw e (way_inside (take len page) environment temporary permanent unit place)

  pub store_ordered : (start stop : ℕ) → way ≡ Store start stop → start ≤ stop
  store_ordered start stop x = (rw x at inside).0

  pub store_within : (start stop : ℕ) → way ≡ Store start stop → stop ≤ length (take len page)
  store_within start stop x = (rw x at inside).1

  pub send_ordered : (v : Tlv) → way ≡ Send v → v.start ≤ v.stop
  send_ordered v x = (rw x at inside).0

  pub send_within : (v : Tlv) → way ≡ Send v → v.stop ≤ length (take len page)
  send_within v x = (rw x at inside).1

  pub length_within : (number from to stop : ℕ) → way ≡ Length number from to stop → to ≤ length (take len page)
  length_within number from to stop x = rw x at inside

pub served : (page : List ℕ) → judge page ≡ Ok tt → length (service page) ≤ 16
served page ok = accepted_service page ok

module _ (m : State) (r : Ready m) (before : List ℕ) where
  idle_now : hand_of m.hand ≡ empty
  idle_now = r.is.hand ∙ idle_hand (card m).run.hand r.idle

  goes_on_lem : (o : State) (unit place : ℕ) → Comes (record { state = laid o.page o.len o.environment o.temporary o.permanent o.trail o.guard o.hand o.wanted unit place; outcome = GoneOn }) (stepped (card m)) → Leads (On unit place) m o before before
  unfolding buffer_after
  goes_on_lem o unit place k = record { stands = k; buffer = rw (← k.outcome) refl }

  -- the page ends, with the card that the keep rule meets
  ends : (outcome : Outcome) → goes_on outcome ≡ false → ((c : Card) → before ≡ buffer_after before c outcome) → (o : State) (d : Card) → Is o d → judge d.run.page ≡ Ok tt → stepped (card m) ≡ effect outcome (rested d) → Leads (Ends outcome) m o before before
  ends outcome off quiet o d is ok e =
      let v : card o ≡ d = is_card_lem o d is in
      record { stands = record { is = rw v is; accepted = rw v ok; stops = off; rests = rw v e }; buffer = rw e (quiet (rested d)) }

  module _ (way : Way) (e : way ≡ way_at (view (take m.len m.page) m.environment m.temporary m.permanent) m.unit m.place) where
    viewed : bare (card m) ≡ view (take m.len m.page) m.environment m.temporary m.permanent
    viewed = view_is m (card m) r.is (take m.len m.page) refl

    plan : decide (card m) ≡ plan_of (card m) way
    plan = rw e (way_plan (card m) (take m.len m.page) m.environment m.temporary m.permanent m.unit m.place viewed (sym r.is.unit) (sym r.is.place))

    short : Short (card m).run.page way
    short = rw (e, ← way_same (card m) (take m.len m.page) m.environment m.temporary m.permanent m.unit m.place viewed (sym r.is.unit) (sym r.is.place)) (way_short (card m) r.runs)

    stepping : (v : Way) → way ≡ v → stepped (card m) ≡ applied (card m) (plan_of (card m) v)
    unfolding stepped
    stepping v x = ap (applied (card m)) (rw x at plan)

    module _ (environment : List ℕ) (t : tidy_slots m.environment ≡ true → tidy_slots environment ≡ true) where
      module _ (a : slots environment ≡ set (slots m.environment) 5 (held 3 (0 ∷ 0 ∷ []))) where
        pub place_leads : (q : ℕ) → way ≡ Place q → (took : Took) → took ≡ On m.unit q → Leads took m (laid m.page m.len environment m.temporary m.permanent m.trail m.guard m.hand m.wanted m.unit m.place) before before
        unfolding plan_of applied moved
        place_leads q x took y =
            rw y (goes_on_lem _ _ _ (rw (stepping (Place q) x) (record { outcome = refl; state = placed_is m (card m) r.is environment t a q m.hand idle_now r.is.tidy_held })))

        module _ (trail : List ℕ) (b : judge (take m.len m.page) ≡ Ok tt → history_of trail ≡ left_by (entry_for (take m.len m.page) m.unit) (history_of m.trail)) (v : tidy_trail m.trail ≡ true → tidy_trail trail ≡ true) where
          left : Is (laid m.page m.len environment m.temporary m.permanent trail m.guard m.hand m.wanted m.unit m.place) (leaving (marked no_error (card m)))
          left = left_is m (card m) r.is environment t a trail v r.runs.accepted b

          pub enter_leads : (unit : ℕ) → way ≡ Enter unit → (place : ℕ) → place ≡ entry_of (take m.len m.page) unit → Leads (On unit place) m (laid m.page m.len environment m.temporary m.permanent trail m.guard m.hand m.wanted m.unit m.place) before before
          unfolding plan_of applied moved
          enter_leads unit x place y =
              goes_on_lem _ _ _ (rw (stepping (Enter unit) x) (record { outcome = refl; state = entry_is _ _ left unit place m.hand y idle_now r.is.tidy_held }))

          -- another page is wanted
          pub away_leads : (start stop : ℕ) → way ≡ Away start stop → (wanted : List ℕ) → (length (part (take m.len m.page) start stop) ≤ 65 → word_in wanted ≡ part (take m.len m.page) start stop) → (tidy_wanted m.wanted ≡ true → tidy_wanted wanted ≡ true) → Leads (Ends Wanted) m (laid m.page m.len environment m.temporary m.permanent trail m.guard m.hand wanted m.unit m.place) before before
          unfolding plan_of applied moved wanting with_wanted leaving with_history marked with_environment goes_on buffer_after card run_of page_of
          away_leads start stop x wanted c d =
              ends Wanted refl (λ _. refl) _ _ (new_wanted _ _ left wanted (part (take m.len m.page) start stop) (c (rw x at short)) (d r.is.tidy_want)) r.runs.accepted (stepping (Away start stop) x)

        -- the areas are written, and the step goes on
        module _ (temporary permanent : List ℕ) (i : tidy_slots m.temporary ≡ true → tidy_slots temporary ≡ true) (j : tidy_records m.permanent ≡ true → tidy_records permanent ≡ true) where
          written : (stop : ℕ) → stepped (card m) ≡ applied (card m) (does (over (card m) (records permanent) (slots temporary)) (onwards stop)) → (took : Took) → took ≡ On m.unit stop → Leads took m (laid m.page m.len environment temporary permanent m.trail m.guard m.hand m.wanted m.unit m.place) before before
          unfolding applied moved
          written stop k took y =
              rw y (goes_on_lem _ _ _ (rw k (record { outcome = refl; state = placed_is _ _ (stored_is m (card m) r.is (take m.len m.page) refl temporary permanent i j) environment t a stop m.hand idle_now r.is.tidy_held })))

          module _ (b : Bool) (z : b ≡ true) where
            pub store_leads : (start stop : ℕ) → way ≡ Store start stop → set_all (tlvs 1 (take m.len m.page) start stop) (view (take m.len m.page) m.environment m.temporary m.permanent) ≡ cond b (wrote (view (take m.len m.page) m.environment temporary permanent)) no_room → (took : Took) → took ≡ On m.unit stop → Leads took m (laid m.page m.len environment temporary permanent m.trail m.guard m.hand m.wanted m.unit m.place) before before
            unfolding plan_of
            store_leads start stop x f = written stop (stepping (Store start stop) x ∙ ap (applied (card m)) (set_done m (card m) r.is (take m.len m.page) refl b temporary permanent start stop f z))

            pub length_leads : (number from to stop : ℕ) → way ≡ Length number from to stop → write (view (take m.len m.page) m.environment m.temporary m.permanent) number 3 (shortest (length (joined (view (take m.len m.page) m.environment m.temporary m.permanent) (named (part (take m.len m.page) from to))))) ≡ cond b (wrote (view (take m.len m.page) m.environment temporary permanent)) no_room → (took : Took) → took ≡ On m.unit stop → Leads took m (laid m.page m.len environment temporary permanent m.trail m.guard m.hand m.wanted m.unit m.place) before before
            unfolding plan_of
            length_leads number from to stop x f = written stop (stepping (Length number from to stop) x ∙ ap (applied (card m)) (length_done m (card m) r.is (take m.len m.page) refl b temporary permanent number from to stop f z))

        -- going back
        module _ (x : way ≡ Back) (turn : Turn) (f : turn ≡ turn_of (take m.len m.page) (history_of m.trail)) where
          turning : (v : Turn) → turn ≡ v → stepped (card m) ≡ turned (marked no_error (card m)) v
          unfolding plan_of applied moved
          turning v y = stepping Back x ∙ back_is (marked no_error (card m)) ∙ ap (turned (marked no_error (card m))) (sym (turn_here m turn f) ∙ y)

          pub nowhere_leads : turn ≡ Nowhere → (trail wanted : List ℕ) → (turn ≡ Nowhere → (trail ≡ m.trail) × (wanted ≡ m.wanted)) → Leads (Ends Ended) m (laid m.page m.len environment m.temporary m.permanent trail m.guard m.hand wanted m.unit m.place) before before
          unfolding turned no_error hex hex_to goes_on buffer_after marked with_environment
          nowhere_leads y trail wanted p =
              rw ((p y).0, (p y).1) (ends Ended refl (λ _. refl) _ _ (noted_as m (card m) r.is environment t (0 ∷ 0 ∷ []) a) r.runs.accepted (turning Nowhere y))

          module _ (trail : List ℕ) (v : tidy_trail m.trail ≡ true → tidy_trail trail ≡ true) where
            lower : history_of trail ≡ lowered (history_of m.trail) → Is (laid m.page m.len environment m.temporary m.permanent trail m.guard m.hand m.wanted m.unit m.place) (with_history (marked no_error (card m)) (lowered (card m).history))
            lower g = lowered_is m (card m) r.is environment t a trail v g

            pub back_leads : (unit : ℕ) → turn ≡ Unit unit → (place : ℕ) → place ≡ entry_of (take m.len m.page) unit → (wanted : List ℕ) → ((k : ℕ) → turn ≡ Unit k → (history_of trail ≡ lowered (history_of m.trail)) × (wanted ≡ m.wanted)) → Leads (On unit place) m (laid m.page m.len environment m.temporary m.permanent trail m.guard m.hand wanted m.unit m.place) before before
            unfolding turned marked with_environment
            back_leads unit y place z wanted q =
                rw (q unit y).1 (goes_on_lem _ _ _ (rw (turning (Unit unit) y) (record { outcome = refl; state = entry_is _ _ (lower (q unit y).0) unit place m.hand z idle_now r.is.tidy_held })))

            pub fetch_leads : turn ≡ Page → (turn ≡ Page → history_of trail ≡ lowered (history_of m.trail)) → (wanted : List ℕ) → (turn ≡ Page → length (last (history_of m.trail)) ≤ 65 → word_in wanted ≡ last (history_of m.trail)) → (tidy_wanted m.wanted ≡ true → tidy_wanted wanted ≡ true) → Leads (Ends Wanted) m (laid m.page m.len environment m.temporary m.permanent trail m.guard m.hand wanted m.unit m.place) before before
            unfolding turned wanting with_history marked with_environment with_wanted card goes_on buffer_after
            fetch_leads y g wanted c d =
                ends Wanted refl (λ _. refl) _ _ (new_wanted _ _ (lower (g y)) wanted (last (history_of m.trail)) (c y (last_short m r turn f y)) (d r.is.tidy_want)) r.runs.accepted (turning Page y)

      -- the page ends by its own
      pub end_leads : (done : Bool) → way ≡ End done → slots environment ≡ cond done (set (slots m.environment) 5 (held 3 (0 ∷ 0 ∷ []))) (slots m.environment) → Leads (Ends Ended) m (laid m.page m.len environment m.temporary m.permanent m.trail m.guard m.hand m.wanted m.unit m.place) before before
      unfolding plan_of applied moved no_error hex hex_to marked with_environment goes_on buffer_after
      end_leads true x a = ends Ended refl (λ _. refl) _ _ (noted_as m (card m) r.is environment t (0 ∷ 0 ∷ []) a) r.runs.accepted (stepping (End true) x)
      end_leads false x a =
          ends Ended refl (λ _. refl) _ _ (new_environment m (card m) r.is environment (card m).environment (a ∙ r.is.environment) (t r.is.tidy_environment)) r.runs.accepted (stepping (End false) x)

      -- by a refusal
      module _ (why : Refusal) (a : slots environment ≡ set (slots m.environment) 5 (held 3 (code why))) (took : Took) (y : took ≡ Ends (Refused why)) where
        fails : stepped (card m) ≡ applied (card m) (refuses why) → Leads took m (laid m.page m.len environment m.temporary m.permanent m.trail m.guard m.hand m.wanted m.unit m.place) before before
        unfolding applied failed marked with_environment goes_on buffer_after
        fails k = rw y (ends (Refused why) refl (λ _. refl) _ _ (noted_as m (card m) r.is environment t (code why) a) r.runs.accepted k)

        pub refuse_leads : way ≡ Refuse why → Leads took m (laid m.page m.len environment m.temporary m.permanent m.trail m.guard m.hand m.wanted m.unit m.place) before before
        unfolding plan_of
        refuse_leads x = fails (stepping (Refuse why) x)

      -- for want of room
      module _ (a : slots environment ≡ set (slots m.environment) 5 (held 3 (code Memory))) (took : Took) (y : took ≡ Ends (Refused Memory)) where
        full : stepped (card m) ≡ applied (card m) (refuses Memory) → (temporary permanent : List ℕ) → temporary ≡ m.temporary → permanent ≡ m.permanent → Leads took m (laid m.page m.len environment temporary permanent m.trail m.guard m.hand m.wanted m.unit m.place) before before
        full k temporary permanent p q = rw (p, q) (fails Memory a took y k)

        module _ (b : Bool) (z : b ≡ false) (temporary permanent : List ℕ) (i : b ≡ false → (temporary ≡ m.temporary) × (permanent ≡ m.permanent)) where
          pub store_full : (start stop : ℕ) → way ≡ Store start stop → set_all (tlvs 1 (take m.len m.page) start stop) (view (take m.len m.page) m.environment m.temporary m.permanent) ≡ cond b (wrote (view (take m.len m.page) m.environment temporary permanent)) no_room → Leads took m (laid m.page m.len environment temporary permanent m.trail m.guard m.hand m.wanted m.unit m.place) before before
          unfolding plan_of
          store_full start stop x f = full (stepping (Store start stop) x ∙ ap (applied (card m)) (set_full m (card m) r.is (take m.len m.page) refl b temporary permanent start stop f z)) temporary permanent (i z).0 (i z).1

          pub count_full : (number from to stop : ℕ) → way ≡ Length number from to stop → write (view (take m.len m.page) m.environment m.temporary m.permanent) number 3 (shortest (length (joined (view (take m.len m.page) m.environment m.temporary m.permanent) (named (part (take m.len m.page) from to))))) ≡ cond b (wrote (view (take m.len m.page) m.environment temporary permanent)) no_room → Leads took m (laid m.page m.len environment temporary permanent m.trail m.guard m.hand m.wanted m.unit m.place) before before
          unfolding plan_of
          count_full number from to stop x f = full (stepping (Length number from to stop) x ∙ ap (applied (card m)) (length_full m (card m) r.is (take m.len m.page) refl b temporary permanent number from to stop f z)) temporary permanent (i z).0 (i z).1

    -- a command
    module _ (v : Tlv) (number : ℕ) (x : way ≡ Send v) (f : number ≡ length (command_of (take m.len m.page) m.environment m.temporary m.permanent v.tag v.start v.stop)) where
      abbrev text : List ℕ
      text = command_of (take m.len m.page) m.environment m.temporary m.permanent v.tag v.start v.stop

      same : text ≡ command (card m) (execute_of (card m).run.page v.tag v.start v.stop)
      same = command_is m (card m) r.is v.tag v.start v.stop (take m.len m.page) refl

      -- it goes out
      module _ (l : number ≤ 255) (hand after : List ℕ) (g : number ≤ 255 → (hand ≡ laid_marked 257 text) × (after ≡ poured before 0 text)) where
        sends : Sends (record { state = laid m.page m.len m.environment m.temporary m.permanent m.trail m.guard hand m.wanted m.unit m.place; outcome = Command (length text) }) before after (moved (card m) (send text))
        sends = send_is m (card m) r.is text hand before after (rw (← f) l) (g l).0 (g l).1

        sending : stepped (card m) ≡ moved (card m) (send text)
        unfolding plan_of applied issued
        sending =
            let fits : ltb 255 (length (command (card m) (execute_of (card m).run.page v.tag v.start v.stop))) ≡ false = rw (← same, ← f) (le-ltb _ _ l) in
            rw (stepping (Send v) x, fits, ← same) refl

        pub send_leads : Leads (Sent number) m (laid m.page m.len m.environment m.temporary m.permanent m.trail m.guard hand m.wanted m.unit m.place) before after
        send_leads = record { stands = rw (sending, f) sends.comes; buffer = rw sending sends.buffer }

      -- it is too long
      pub send_full : 255 < number → (environment : List ℕ) → (tidy_slots m.environment ≡ true → tidy_slots environment ≡ true) → slots environment ≡ set (slots m.environment) 5 (held 3 (code Memory)) → (took : Took) → took ≡ Ends (Refused Memory) → (hand out : List ℕ) → (255 < number → (hand ≡ m.hand) × (out ≡ before)) → Leads took m (laid m.page m.len environment m.temporary m.permanent m.trail m.guard hand m.wanted m.unit m.place) before out
      unfolding plan_of issued
      send_full l environment t a took y hand out p =
          let long : ltb 255 (length (command (card m) (execute_of (card m).run.page v.tag v.start v.stop))) ≡ true = rw (← same, ← f) (lt-ltb _ _ l) in
          rw ((p l).0, (p l).1) (fails environment t Memory a took y (stepping (Send v) x ∙ ap (applied (card m)) (rw long refl)))
