-- What a machine answers fits its bits, in the shape of what the proofs need.
-- Assumes nothing.
use Prim.Native.Nat.{ℕ, ◌-◌, ◌≤◌, ◌<◌}
use mathlib.Core.List.{List}
use mathlib.Core.Path.{◌≡◌, refl, sym, subst}
use native.Mathlib.Omega.{arith}
use lib.ListN.{length, replicate, length-append}
use Rattle.rules.specs.Numbers.{number, offset}
use Rattle.rules.specs.Card.{Slot, free, held, Card}
use Rattle.rules.specs.Store.{longest, area}
use Rattle.rules.specs.IsCard.{is_card}
use Rattle.rules.specs.Calls.{load, step, run_up_to, respond, read_variable, Answer, told, loaded, taken, ran, responded, shown, padded, hidden, display, seen, read_done, act}
use Rattle.rules.specs.declared.Refusal.TheVariants.{State as NoCard}
use Rattle.rules.specs.declared.Outcome.{Outcome}
use Rattle.rules.specs.declared.Stepped.{Stepped}
use Rattle.rules.specs.declared.Ran.{Ran}
use Rattle.rules.specs.declared.Shown.{Shown}
use Rattle.rules.proofs.Choices.{either}
use Rattle.state.specs.State.{card_of}
use Rattle.machine.specs.declared.Machine.{Machine}
use Rattle.machine.specs.Meets.{Meets}
use Rattle.packing.specs.Packed.{command_length}
use Rattle.cabi.proofs.Sent.{Fits, load_fits, step_fits, run_fits, respond_fits, CountedTo, run_counts}
use Rattle.std.specs.Prelude.{Result}
use Rattle.rules.specs.declared.LoadError.{LoadError}

module _ (x m : Machine) where
  pub load_packs : (page : List ℕ) (l : Result (Unit {0}) LoadError) → Meets (load page) x (loaded l) m → offset l < 65536
  load_packs page l met = subst Fits (sym met.answered) (load_fits (card_of x.state) page)

  module _ (before after ref : List ℕ) where
    module _ (s : Stepped) (met : Meets (step before) x (taken s after ref) m) where
      step_packs : Fits (taken s after ref)
      step_packs = subst Fits (sym met.answered) (step_fits (card_of x.state) before)

      pub step_length : command_length s.outcome < 65536
      step_length = step_packs.0

      pub step_unit : s.unit < 65536
      step_unit = step_packs.1

    module _ (most : ℕ) (r : Ran) (met : Meets (run_up_to most before) x (ran r after ref) m) where
      pub run_length : command_length r.outcome < 65536
      run_length = subst Fits (sym met.answered) (run_fits (card_of x.state) most before)

      pub run_count : most < 4294967296 → r.count < 4294967296
      run_count l =
          let k : r.count ≤ most = subst (CountedTo most) (sym met.answered) (run_counts most before (card_of x.state)) in
          omega arith

    pub respond_length : (response : List ℕ) (o : Outcome) → Meets (respond response before) x (responded o after ref) m → command_length o < 65536
    respond_length response o met = subst Fits (sym met.answered) (respond_fits (card_of x.state) response before)

-- a value is no longer than the bytes that hold it, and a refused read has none
abbrev Shows : Shown → Type 0
Shows s = (s.length ≤ length s.bytes) × ((s.number ≡ 0 → ⊥) → s.length ≡ 0)

display_shows : (v : Slot) → Shows (display v)
unfolding display hidden padded
display_shows free = (omega arith, λ _. refl)
display_shows (held type bytes) = (let e = length-append bytes (replicate (longest - length bytes) 0) in omega arith, λ z. absurd (z refl))

abbrev ShowsIn : Answer → Type 0
ShowsIn (told t) = Prim.Unit {0}
ShowsIn (loaded l) = Prim.Unit {0}
ShowsIn (taken s buffer reference) = Prim.Unit {0}
ShowsIn (ran r buffer reference) = Prim.Unit {0}
ShowsIn (responded o buffer reference) = Prim.Unit {0}
ShowsIn (shown s) = Shows s

read_shows : (n : ℕ) (id : List ℕ) (c : Card) → ShowsIn (act (read_variable n id) c).answer
unfolding act read_done hidden
read_shows n id c = either Shows (is_card c) {a = display (seen (area n) c n id)} {b = hidden NoCard} (λ _. display_shows (seen (area n) c n id)) (λ _. (omega arith, λ _. refl))

module _ (x m : Machine) (n : ℕ) (id : List ℕ) (s : Shown) (met : Meets (read_variable n id) x (shown s) m) where
  shows : Shows s
  shows = subst ShowsIn (sym met.answered) (read_shows n id (card_of x.state))

  pub read_length : length s.bytes ≡ 255 → s.length < 65536
  read_length e = let k = shows.0 in omega arith

  pub read_none : (s.number ≡ 0 → ⊥) → s.length < 65536
  read_none z = let k = shows.1 z in omega arith

pub ruleset fit_laws = (load_packs, step_length, step_unit, run_length, run_count, respond_length, read_length, read_none)
