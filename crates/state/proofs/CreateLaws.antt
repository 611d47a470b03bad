-- A created state, in the shape of what its proof needs.
-- Assumes nothing.
use mathlib.Core.Path.{refl}
use Rattle.pour.specs.Pour.{blank}
use Rattle.rules.specs.Card.{created, at_rest}
use Rattle.slots.proofs.KeepLaws.{slots_blank, tidy_blank}
use Rattle.records.proofs.WriteLaws.{records_blank, tidy_blank as tidy_records_lem}
use Rattle.trail.proofs.TrailLaws.{history_blank, tidy_blank as tidy_trail_lem}
use Rattle.word.specs.Word.{word_in}
use Rattle.state.specs.State.{page_of, Is}
use Rattle.word.proofs.Parts.{guard_blank, hand_blank, blank_guard, blank_hand, blank_wanted}
use Rattle.state.proofs.Parts.{blank_page}

pub created_is : Is (record { page = blank 4096; len = 0; environment = blank 16640; temporary = blank 16640; permanent = blank 17920; trail = blank 1058; guard = blank 18; hand = blank 257; wanted = blank 66; unit = 0; place = 0 }) created
unfolding created at_rest page_of word_in
created_is =
    record {
      environment = slots_blank;
      temporary = slots_blank;
      permanent = records_blank;
      guard = guard_blank;
      history = history_blank;
      page = refl;
      unit = refl;
      place = refl;
      hand = hand_blank;
      wanted = refl;
      tidy_environment = tidy_blank;
      tidy_temporary = tidy_blank;
      tidy_permanent = tidy_records_lem;
      tidy_guarded = blank_guard;
      tidy_history = tidy_trail_lem;
      tidy_run = blank_page;
      tidy_held = blank_hand;
      tidy_want = blank_wanted;
    }
