-- A step on a card whose hidden values are blanked: it reads, writes and goes on as on the card itself, where the running page's service is not hidden.
-- Assumes nothing.
use mathlib.Core.Path.{◌≡◌, refl, ap, ◌∙◌}
use mathlib.Core.Bool.{Bool, true, false, cond}
use mathlib.Core.List.{List, [], ◌∷◌}
use Prim.Native.Nat.{ℕ, ◌+◌, ◌-◌, ◌%◌}
use lib.ListN.{length, get_or, set}
use lib.Dec.{ltb, eqb}
use Rattle.rules.specs.Bytes.{part}
use Rattle.rules.specs.Numbers.{code, no_error}
use Rattle.rules.specs.Tlv.{head_at}
use Rattle.rules.specs.Tlvs.{Tlvs, done, past, tlv, tlvs}
use Rattle.rules.specs.Pieces.{Pieces, full, cut, text, variable, pieces, named}
use Rattle.rules.specs.Shape.{attribute}
use Rattle.rules.specs.Page.{service, page_head, page_row, page_part, row_of, part_in, bytes_of}
use Rattle.rules.specs.Reference.{target}
use Rattle.rules.specs.Handler.{handle}
use Rattle.rules.specs.Card.{Slot, free, held, Record, stored, Card, with_environment, with_permanent, with_temporary, with_guard, with_history, with_run, with_wanted, at_rest, in_hand}
use Rattle.rules.specs.Store.{Area, environmental, permanently, temporarily, string, area, place_for, read_in, read, reading, unserved, worse, value_type, writing, record_room, room, room_limit, longest, Written, wrote, no_room, write_temporary, write_permanent, write_in, write}
use Rattle.rules.specs.Value.{pieces_of, complaint, joined, shared_with, shared, type_for, shortest}
use Rattle.rules.specs.Keep.{rested}
use Rattle.rules.specs.Trail.{last, lowered}
use Rattle.rules.specs.Command.{Execute, execute_of, result_complaint, indicator_complaint, execute_complaint, simple_tlvs, allowed, expanded, command_body, command, has_general, has_output, general_number, output_number, output, write_slot, then_output, results}
use Rattle.rules.specs.Step.{Move, onwards, jump, away, back, send, finish, Plan, refuses, does, runs_out, unless, storing, branch_by, branch, perform, number_before, setting_complaint, then_set, set_all, set_variable, list_at, get_length, case_value, cases_complaint, follow, case_choice, choose, chosen, branch_on_slot, branch_on_value, exit, execute}
use Rattle.rules.specs.Step.{ByteCode, setting_variables, going_back, branching, exiting, executing, getting_length, unknown, byte_code, plan_by, plan_for, here, decide, with_results, answer_by, answer_for, Effect, effect, marked, placed, entered, sending, leaving, wanting, back_to, go_back, moved, failed, applied, stepped, answered}
use Rattle.rules.specs.declared.Target.{Target}
use Rattle.rules.specs.declared.Target.TheVariants.{Unit as Own, Lacking, Other}
use Rattle.rules.specs.declared.Action.{Action}
use Rattle.rules.specs.declared.Action.TheVariants.{Pass, Next, Quit, Back, Retry, Go}
use Rattle.rules.specs.declared.Choice.{Choice}
use Rattle.rules.specs.declared.Choice.TheVariants.{Follow, Stay, Unknown}
use Rattle.rules.specs.declared.Complaint.{Complaint}
use Rattle.rules.specs.declared.Complaint.TheVariants.{Nothing, Undefined, Secured, Misused}
use Rattle.rules.specs.declared.Refusal.{Refusal}
use Rattle.rules.specs.declared.Refusal.TheVariants.{Syntax, Variable, Memory, Security, Disallowed, Anchor}
use Rattle.rules.specs.declared.Outcome.{Outcome}
use Rattle.rules.specs.declared.Outcome.TheVariants.{Page, Ended, Refused}
use Rattle.rules.proofs.BlankTests.{two_cond}
use Rattle.rules.proofs.BlankStore.{veils, hiddens, length_veils, place_veil, room_veil, look_veil, write_veil, hiddens_write}
use Rattle.std.specs.Prelude.{Option, Some, None}
use Rattle.rules.specs.declared.Tlv.{Tlv}

-- the card as one sees it who does not know the hidden values
abbrev pub see : (List ℕ → Bool) → Card → Card
see hides c =
    record { environment = c.environment; permanent = veils hides c.permanent; temporary = c.temporary; guard = c.guard; history = c.history; run = c.run; wanted = c.wanted }

abbrev pub see_effect : (List ℕ → Bool) → Effect → Effect
see_effect hides d = effect d.outcome (see hides d.card)

-- the running page's service is not hidden, and the hidden records are m
pub record Safe (hides : List ℕ → Bool) (m : List Record) (c : Card) : Type 0 where
  pub clean : hides (service c.run.page) ≡ false
  pub kept : hiddens hides c.permanent ≡ m

-- what was done with the card as it is seen, beside what was done with the card itself
data Writes (hides : List ℕ → Bool) (m : List Record) : Written → Written → Type 0 where
  both_wrote : {c : Card} → Safe hides m c → Writes hides m (wrote (see hides c)) (wrote c)
  both_full : Writes hides m no_room no_room

data Plans (hides : List ℕ → Bool) (m : List Record) : Plan → Plan → Type 0 where
  both_refuse : (r : Refusal) → Plans hides m (refuses r) (refuses r)
  both_do : {c : Card} → Safe hides m c → (move : Move) → Plans hides m (does (see hides c) move) (does c move)
  both_out : Plans hides m runs_out runs_out

pub record Effects (hides : List ℕ → Bool) (m : List Record) (x y : Effect) : Type 0 where
  pub sees : x ≡ see_effect hides y
  pub safe : Safe hides m y.card

module _ (hides : List ℕ → Bool) (c : Card) (clean : hides (service c.run.page) ≡ false) where
  read_in_see : (a : Area) (n : ℕ) → read_in a (see hides c) n ≡ read_in a c n
  unfolding read_in
  read_in_see environmental n = refl
  read_in_see permanently n = look_veil hides (service c.run.page) n clean c.permanent
  read_in_see temporarily n = refl
  read_in_see string n = refl

  read_see : (n : ℕ) → read (see hides c) n ≡ read c n
  unfolding read
  read_see n = read_in_see (area n) n

  complaint_see : (known : List ℕ) (p : Pieces) → complaint (see hides c) known p ≡ complaint c known p
  unfolding complaint reading
  complaint_see known full = refl
  complaint_see known cut = refl
  complaint_see known (text from to rest) = complaint_see known rest
  complaint_see known (variable n rest) = rw (read_see n, complaint_see known rest)

  joined_see : (p : Pieces) → joined (see hides c) p ≡ joined c p
  unfolding joined
  joined_see full = refl
  joined_see cut = refl
  joined_see (text from to rest) = rw (joined_see rest)
  joined_see (variable n rest) = rw (read_see n, joined_see rest)

  shared_with_see : (type : ℕ) (p : Pieces) → shared_with type (see hides c) p ≡ shared_with type c p
  unfolding shared_with
  shared_with_see type full = refl
  shared_with_see type cut = refl
  shared_with_see type (text from to rest) = shared_with_see type rest
  shared_with_see type (variable n rest) = rw (read_see n, shared_with_see type rest)

  shared_see : (p : Pieces) → shared (see hides c) p ≡ shared c p
  unfolding shared
  shared_see full = refl
  shared_see cut = refl
  shared_see (text from to rest) = shared_see rest
  shared_see (variable n rest) = rw (read_see n, shared_with_see (value_type (read c n)) rest)

  type_for_see : (tag start stop : ℕ) → type_for (see hides c) tag start stop ≡ type_for c tag start stop
  unfolding type_for
  type_for_see tag start stop = rw (shared_see (named (part c.run.page start stop)))

  indicator_complaint_see : (row : Tlvs) → indicator_complaint (see hides c) row ≡ indicator_complaint c row
  unfolding indicator_complaint
  indicator_complaint_see (done p) = refl
  indicator_complaint_see (past p) = refl
  indicator_complaint_see (tlv tag at start stop rest) =
      rw (complaint_see [] (pieces true c.run.page (start + 1) stop), indicator_complaint_see rest)

  expanded_see : (row : Tlvs) → expanded (see hides c) row ≡ expanded c row
  unfolding expanded
  expanded_see (done p) = refl
  expanded_see (past p) = refl
  expanded_see (tlv tag at start stop rest) = rw (joined_see (pieces true c.run.page (start + 1) stop), expanded_see rest)

  command_see : (x : Execute) → command (see hides c) x ≡ command c x
  unfolding command command_body
  command_see x = rw (expanded_see (simple_tlvs c.run.page x))

  setting_complaint_see : (known : List ℕ) (row : Tlvs) → setting_complaint (see hides c) known row ≡ setting_complaint c known row
  unfolding setting_complaint writing number_before
  setting_complaint_see known (done p) = refl
  setting_complaint_see known (past p) = refl
  setting_complaint_see known (tlv tag at start stop rest) =
      rw (complaint_see known (pieces_of c.run.page tag start stop), setting_complaint_see (number_before c at ∷ known) rest)

  list_at_see : (h : Option Tlv) → list_at (see hides c) h ≡ list_at c h
  unfolding list_at
  list_at_see (Some h) = refl
  list_at_see None = refl

  case_choice_see : (bytes : List ℕ) (stop : ℕ) {x y : Choice} → x ≡ y → (h : Option Tlv) → case_choice (see hides c) bytes stop x h ≡ case_choice c bytes stop y h
  unfolding case_choice
  case_choice_see bytes stop e (Some h) =
      rw (e, complaint_see [] (case_value c.run.page h.tag h.start h.stop), joined_see (case_value c.run.page h.tag h.start h.stop))
  case_choice_see bytes stop e None = e

  choose_see : (bytes : List ℕ) (row : Tlvs) → choose (see hides c) bytes row ≡ choose c bytes row
  unfolding choose
  choose_see bytes (done p) = refl
  choose_see bytes (past p) = refl
  choose_see bytes (tlv tag at start stop rest) =
      ap (cond (eqb tag 0x12) (follow (head_at c.run.page start stop))) (case_choice_see bytes stop (choose_see bytes rest) (head_at c.run.page start stop))

module _ (hides : List ℕ → Bool) (m : List Record) where
  then_set_ok : (f : Card → Written) → ((d : Card) → Safe hides m d → Writes hides m (f (see hides d)) (f d)) → {v w : Written} → Writes hides m v w →
      Writes hides m (then_set f v) (then_set f w)
  unfolding then_set
  then_set_ok f k (both_wrote {c = d} h) = k d h
  then_set_ok f k both_full = both_full

  unless_ok : (k : Complaint) {p q : Plan} → Plans hides m p q → Plans hides m (unless k p) (unless k q)
  unfolding unless
  unless_ok Nothing h = h
  unless_ok Undefined h = both_refuse Variable
  unless_ok Secured h = both_refuse Security
  unless_ok Misused h = both_refuse Syntax

  storing_ok : (move : Move) {v w : Written} → Writes hides m v w → Plans hides m (storing move v) (storing move w)
  unfolding storing
  storing_ok move (both_wrote h) = both_do h move
  storing_ok move both_full = both_refuse Memory

  with_results_ok : {v w : Written} → Writes hides m v w → {p q : Plan} → Plans hides m p q → Plans hides m (with_results v p) (with_results w q)
  unfolding with_results
  with_results_ok h (both_refuse r) = both_refuse r
  with_results_ok h (both_do k move) = storing_ok move h
  with_results_ok h both_out = both_out

  module _ (c : Card) (safe : Safe hides m c) where
    -- variables
    write_in_ok : (a : Area) (n type : ℕ) (bytes : List ℕ) → Writes hides m (write_in a (see hides c) n type bytes) (write_in a c n type bytes)
    unfolding write_in write_permanent write_temporary with_permanent with_temporary
    write_in_ok environmental n type bytes = both_wrote safe
    write_in_ok permanently n type bytes =
        let id = service c.run.page in
        let k = place_for id n c.permanent in
        let w = set c.permanent k (stored id n type bytes) in
        let done : Safe hides m (with_permanent c w) =
        record { clean = safe.clean; kept = hiddens_write hides id n safe.clean c.permanent type bytes ∙ safe.kept } in
        rw (place_veil hides id n c.permanent, length_veils hides c.permanent, write_veil hides id n safe.clean c.permanent k type bytes, room_veil hides w)
        (two_cond (Writes hides m) (ltb k (length c.permanent))
        (two_cond (Writes hides m) (ltb room_limit (record_room w)) both_full (both_wrote done)) both_full)
    write_in_ok temporarily n type bytes =
        let w = set c.temporary (n - 0x80) (held type bytes) in
        let done : Safe hides m (with_temporary c w) = record { clean = safe.clean; kept = safe.kept } in
        two_cond (Writes hides m) (ltb room_limit (room w)) both_full (both_wrote done)
    write_in_ok string n type bytes = both_wrote safe

    write_ok : (n type : ℕ) (bytes : List ℕ) → Writes hides m (write (see hides c) n type bytes) (write c n type bytes)
    unfolding write
    write_ok n type bytes = two_cond (Writes hides m) (ltb longest (length bytes)) both_full (write_in_ok (area n) n type bytes)

    write_slot_ok : (n : ℕ) (v : Slot) → Writes hides m (write_slot (see hides c) n v) (write_slot c n v)
    unfolding write_slot
    write_slot_ok n free = both_wrote safe
    write_slot_ok n (held type bytes) = write_ok n type bytes

    -- where a byte code leads
    branch_by_ok : (r : List ℕ) (t : Target) → Plans hides m (branch_by (see hides c) r t) (branch_by c r t)
    unfolding branch_by
    branch_by_ok r (Own k) = both_do safe (jump k)
    branch_by_ok r Lacking = both_refuse Anchor
    branch_by_ok r Other = both_do safe (away r)

    perform_ok : (next : ℕ) (again : Move) (a : Action) → Plans hides m (perform (see hides c) next again a) (perform c next again a)
    unfolding perform branch
    perform_ok next again Pass = both_do safe finish
    perform_ok next again Next = both_do safe (onwards next)
    perform_ok next again Quit = both_do safe finish
    perform_ok next again Back = both_do safe back
    perform_ok next again Retry = both_do safe again
    perform_ok next again (Go start stop) = branch_by_ok (part c.run.page start stop) (target c.run.page (part c.run.page start stop))

    chosen_ok : (next : ℕ) (x : Choice) → Plans hides m (chosen (see hides c) next x) (chosen c next x)
    unfolding chosen branch
    chosen_ok next (Follow start stop) = branch_by_ok (part c.run.page start stop) (target c.run.page (part c.run.page start stop))
    chosen_ok next Stay = both_do safe (onwards next)
    chosen_ok next Unknown = both_refuse Variable

    branch_on_slot_ok : (next : ℕ) (row : Tlvs) (v : Slot) → Plans hides m (branch_on_slot (see hides c) next row v) (branch_on_slot c next row v)
    unfolding branch_on_slot
    branch_on_slot_ok next row free = both_refuse Variable
    branch_on_slot_ok next row (held type bytes) = rw (choose_see hides c safe.clean bytes row) (chosen_ok next (choose c bytes row))

  -- the pairs of Set Variable, and the results of a response, in turn
  set_all_ok : (row : Tlvs) (c : Card) → Safe hides m c → Writes hides m (set_all row (see hides c)) (set_all row c)
  unfolding set_all number_before
  set_all_ok (done p) c h = both_wrote h
  set_all_ok (past p) c h = both_wrote h
  set_all_ok (tlv tag at start stop rest) c h =
      rw (type_for_see hides c h.clean tag start stop, joined_see hides c h.clean (pieces_of c.run.page tag start stop))
      (then_set_ok (λ d. set_all rest d) (set_all_ok rest) (write_ok c h (number_before c at) (type_for c tag start stop) (joined c (pieces_of c.run.page tag start stop))))

  then_output_ok : (r : List ℕ) (x : Execute) (after : Option Tlv) {v w : Written} → Writes hides m v w → Writes hides m (then_output r x after v) (then_output r x after w)
  unfolding then_output
  then_output_ok r x after (both_wrote {c = d} h) =
      two_cond (Writes hides m) (has_output x) (write_slot_ok d h (output_number d.run.page x) (output r x after)) (both_wrote h)
  then_output_ok r x after both_full = both_full

  results_ok : (c : Card) → Safe hides m c → (x : Execute) (g : ℕ) (r : List ℕ) (after : Option Tlv) → Writes hides m (results (see hides c) x g r after) (results c x g r after)
  unfolding results
  results_ok c h x g r after =
      then_output_ok r x after (two_cond (Writes hides m) (has_general x) (write_ok c h (general_number c.run.page x) 0 (g ∷ [])) (both_wrote h))

  module _ (c : Card) (safe : Safe hides m c) where
    set_variable_ok : (start stop : ℕ) → Plans hides m (set_variable (see hides c) start stop) (set_variable c start stop)
    unfolding set_variable
    set_variable_ok start stop =
        let row = tlvs 1 c.run.page start stop in
        rw (setting_complaint_see hides c safe.clean [] row)
        (unless_ok (setting_complaint c [] row) (storing_ok (onwards stop) (set_all_ok row c safe)))

    get_length_ok : (start stop : ℕ) → Plans hides m (get_length (see hides c) start stop) (get_length c start stop)
    unfolding get_length writing
    get_length_ok start stop =
        let list = list_at c (head_at c.run.page (start + 1) stop) in
        let n = get_or c.run.page start 0 in
        rw (list_at_see hides c safe.clean (head_at c.run.page (start + 1) stop), complaint_see hides c safe.clean [] list, joined_see hides c safe.clean list)
        (unless_ok (worse (writing c n) (complaint c [] list)) (storing_ok (onwards stop) (write_ok c safe n 3 (shortest (length (joined c list))))))

    branch_on_value_ok : (start stop : ℕ) → Plans hides m (branch_on_value (see hides c) start stop) (branch_on_value c start stop)
    unfolding branch_on_value
    branch_on_value_ok start stop =
        let s = c.run.page in
        let n = get_or s start 0 in
        let row = tlvs 0 s (start + 1) stop in
        rw (read_see hides c safe.clean n)
        (unless_ok (worse (unserved (service s) (area n)) (cases_complaint s row)) (branch_on_slot_ok c safe stop row (read c n)))

    execute_ok : (x : Execute) → Plans hides m (execute (see hides c) x) (execute c x)
    unfolding execute execute_complaint result_complaint writing allowed
    execute_ok x =
        rw (indicator_complaint_see hides c safe.clean (simple_tlvs c.run.page x), command_see hides c safe.clean x)
        (unless_ok (execute_complaint c x)
        (two_cond (Plans hides m) (allowed c x)
        (two_cond (Plans hides m) (ltb 255 (length (command c x))) (both_refuse Memory) (both_do safe (send (command c x)))) (both_refuse Disallowed)))

    plan_by_ok : (tag start stop : ℕ) (b : ByteCode) → Plans hides m (plan_by (see hides c) tag start stop b) (plan_by c tag start stop b)
    unfolding plan_by exit
    plan_by_ok tag start stop setting_variables = set_variable_ok start stop
    plan_by_ok tag start stop going_back = both_do safe back
    plan_by_ok tag start stop branching = branch_on_value_ok start stop
    plan_by_ok tag start stop exiting =
        two_cond (Plans hides m) (eqb (attribute c.run.page tag start stop % 2) 1) (both_do safe finish)
        (perform_ok c safe stop finish (handle c.run.page c.run.unit 0x10))
    plan_by_ok tag start stop executing = execute_ok (execute_of c.run.page tag start stop)
    plan_by_ok tag start stop getting_length = get_length_ok start stop
    plan_by_ok tag start stop unknown = both_refuse Syntax

    plan_for_ok : (h : Option Tlv) → Plans hides m (plan_for (see hides c) h) (plan_for c h)
    unfolding plan_for
    plan_for_ok (Some h) = plan_by_ok h.tag h.start h.stop (byte_code h.tag)
    plan_for_ok None = both_out

    answer_for_ok : (g : ℕ) (r : List ℕ) (after h : Option Tlv) → Plans hides m (answer_for (see hides c) g r after h) (answer_for c g r after h)
    unfolding answer_for answer_by
    answer_for_ok g r after (Some h) =
        let x = execute_of c.run.page h.tag h.start h.stop in
        with_results_ok (results_ok c safe x g r after) (perform_ok c safe x.stop (send (in_hand c.run.hand)) (handle c.run.page c.run.unit g))
    answer_for_ok g r after None = both_out

-- no page runs: there is no service
service_none : service [] ≡ []
unfolding service page_part page_row page_head head_at row_of part_in bytes_of
service_none = refl

module _ (hides : List ℕ → Bool) (shown-none : hides [] ≡ false) (m : List Record) where
  pub rested_safe : (c : Card) → Safe hides m c → Safe hides m (rested c)
  unfolding rested with_run with_guard with_temporary at_rest
  rested_safe c h = record { clean = rw service_none shown-none; kept = h.kept }

  ends_ok : (o : Outcome) (c : Card) → Safe hides m c → Effects hides m (effect o (rested (see hides c))) (effect o (rested c))
  unfolding rested with_run with_guard with_temporary
  ends_ok o c h = record { sees = refl; safe = rested_safe c h }

  back_to_ok : (c : Card) → Safe hides m c → (r : List ℕ) (t : Target) → Effects hides m (back_to (see hides c) r t) (back_to c r t)
  unfolding back_to entered wanting with_run with_wanted
  back_to_ok c h r (Own k) = record { sees = refl; safe = record { clean = h.clean; kept = h.kept } }
  back_to_ok c h r Lacking = ends_ok Page (with_wanted c r) (record { clean = h.clean; kept = h.kept })
  back_to_ok c h r Other = ends_ok Page (with_wanted c r) (record { clean = h.clean; kept = h.kept })

  go_back_ok : (c : Card) → Safe hides m c → Effects hides m (go_back (see hides c)) (go_back c)
  unfolding go_back with_history
  go_back_ok c h =
      two_cond (Effects hides m) (eqb c.history.pointer 0) (ends_ok Ended c h)
      (back_to_ok (with_history c (lowered c.history)) (record { clean = h.clean; kept = h.kept }) (last c.history) (target c.run.page (last c.history)))

  moved_ok : (c : Card) → Safe hides m c → (move : Move) → Effects hides m (moved (see hides c) move) (moved c move)
  unfolding moved marked placed entered leaving wanting sending with_run with_history with_environment with_wanted
  moved_ok c h (onwards p) = record { sees = refl; safe = record { clean = h.clean; kept = h.kept } }
  moved_ok c h (jump k) = record { sees = refl; safe = record { clean = h.clean; kept = h.kept } }
  moved_ok c h (away r) = ends_ok Page (with_wanted (leaving (marked no_error c)) r) (record { clean = h.clean; kept = h.kept })
  moved_ok c h back = go_back_ok (marked no_error c) (record { clean = h.clean; kept = h.kept })
  moved_ok c h (send b) = record { sees = refl; safe = record { clean = h.clean; kept = h.kept } }
  moved_ok c h finish = ends_ok Ended (marked no_error c) (record { clean = h.clean; kept = h.kept })

  applied_ok : (c : Card) → Safe hides m c → {p q : Plan} → Plans hides m p q → Effects hides m (applied (see hides c) p) (applied c q)
  unfolding applied failed marked with_environment
  applied_ok c h (both_refuse r) = ends_ok (Refused r) (marked (code r) c) (record { clean = h.clean; kept = h.kept })
  applied_ok c h (both_do {c = d} k move) = moved_ok d k move
  applied_ok c h both_out = ends_ok Ended c h

  pub stepped_ok : (c : Card) → Safe hides m c → Effects hides m (stepped (see hides c)) (stepped c)
  unfolding stepped decide here
  stepped_ok c h = applied_ok c h (plan_for_ok hides m c h (here c))

  pub answered_ok : (c : Card) → Safe hides m c → (g : ℕ) (r : List ℕ) (after : Option Tlv) → Effects hides m (answered (see hides c) g r after) (answered c g r after)
  unfolding answered here
  answered_ok c h g r after = applied_ok c h (answer_for_ok hides m c h g r after (here c))
