-- The premises of isolation can be met by cards that differ: in a service's value and its type, in a guarded variable, and in being guarded at all.
-- Assumes nothing.
use mathlib.Core.Path.{◌≡◌, refl}
use mathlib.Core.List.{List, [], ◌∷◌}
use Prim.Native.Nat.{ℕ}
use lib.ListN.{replicate}
use Rattle.rules.specs.Bytes.{hex}
use Rattle.rules.specs.Card.{Slot, free, held, none, stored, Guard, unlocked, locked, Card, at_rest}
use Rattle.rules.specs.Calls.{Asked, load, step, read_variable, answers}
use Rattle.rules.specs.Open.{opened}
use Rattle.rules.specs.Carried.{equal, cut_after, one_more, two_more, measured, field_then, fields, past_attributes, inside, page_fields, holding, carries, presents}
use Rattle.rules.specs.Hidden.{blank_bytes, blank_type, blank, unguarded, Alike, creates, reads, reads_temporary, page_in, some, loads_accepted, before, first_page, Unasked}
use Rattle.rules.proofs.Isolation.{isolation}

-- service 'A1' holds one value, and one temporary variable may be kept
pub card : (type : ℕ) (value : List ℕ) (kept : Slot) → Guard → Card
card type value kept g =
    record {
      environment = replicate 64 free;
      permanent = stored (0xA1 ∷ []) 0x41 type value ∷ replicate 63 none;
      temporary = kept ∷ replicate 63 free;
      guard = g;
      history = record { entries = []; pointer = 0 };
      run = at_rest;
      wanted = [];
    }

-- a page of service 'B2' without Page Unlock, and a read of the temporary variable afterwards
pub calls : List Asked
calls =
    load (hex 15 0x010D0201410601B20A050B01314500) ∷
    read_variable 0x80 [] ∷
    step (replicate 255 0) ∷
    read_variable 0x41 (0xB2 ∷ []) ∷
    []

pub guarded_card : Card
guarded_card = card 1 (0x4F ∷ 0x61 ∷ []) (held 3 (0x07 ∷ [])) (locked (0x09 ∷ []))

pub bare_card : Card
bare_card = card 2 (0x45 ∷ 0x6C ∷ []) free unlocked

alike : Alike (0xA1 ∷ []) guarded_card bare_card
unfolding opened card guarded_card bare_card equal blank_bytes blank_type blank unguarded
alike = record { card_c = refl; card_d = refl; rest_c = refl; rest_d = refl; environment = refl; permanent = refl; temporary = refl; history = refl; wanted = refl }

unasked : Unasked (0xA1 ∷ []) guarded_card bare_card calls
unfolding opened card guarded_card bare_card calls equal cut_after one_more two_more measured field_then fields past_attributes inside page_fields holding carries presents creates reads reads_temporary page_in some loads_accepted before first_page
unasked = record { uncreated = refl; unread = refl; untouched = refl; uncarried = refl; shut_c = refl; shut_d = refl }

pub case_alike : answers calls guarded_card ≡ answers calls bare_card
case_alike = (isolation (0xA1 ∷ []) guarded_card bare_card calls alike unasked).same_answers
