-- The ways through an Execute USAT Command, in the shape of what their proofs need.
-- Assumes nothing.
use Prim.Native.Nat.{ℕ, ◌-◌, ◌≤◌}
use mathlib.Core.Bool.{false}
use mathlib.Core.List.{List}
use mathlib.Core.Path.{◌≡◌, refl, sym, ◌∙◌}
use native.Mathlib.Omega.{arith}
use lib.ListN.{length, take, drop, length-take}
use lib.Seq.{take-append_seam}
use lib.Dec.{ltb}
use borrow.Author.Tests.{le-ltb, ltb-false}
use Rattle.pour.specs.Pour.{poured}
use Rattle.pour.proofs.PourLaws.{length_poured}
use Rattle.leaf.proofs.Cases.{both}
use Rattle.rules.specs.Store.{longest}
use Rattle.rules.specs.declared.Outcome.TheVariants.{Command}
use Rattle.rules.specs.Bytes.{part}
use Rattle.rules.specs.Card.{Card, by_code, with_run, in_hand}
use Rattle.rules.specs.Command.{execute_of, command}
use Rattle.rules.specs.Step.{moved, send, sending}
use Rattle.rules.specs.Calls.{over, buffer_after}
use Rattle.variable.specs.View.{view}
use Rattle.value.specs.Into.{into}
use Rattle.command.proofs.Bare.{bare_command}
use Rattle.word.specs.Word.{laid_marked}
use Rattle.word.proofs.Parts.{hand_laid, laid_hand}
use Rattle.state.specs.declared.State.{State}
use Rattle.state.specs.State.{Is}
use Rattle.state.proofs.Changes.{new_place}
use Rattle.setting.proofs.ComplaintLaws.{part_start}
use Rattle.storing.proofs.StoreLaws.{page_is, view_is}
use Rattle.sending.specs.Sent.{Sends}

-- the text of a command that fits is the command
pub text_is : (s env temp perm : List ℕ) (tag start stop n : ℕ) → n ≡ length (command (view s env temp perm) (execute_of s tag start stop)) → n ≤ 255 → (b bytes w : List ℕ) → bytes ≡ into b (command (view s env temp perm) (execute_of s tag start stop)) → w ≡ part bytes 0 n
    → w ≡ command (view s env temp perm) (execute_of s tag start stop)
unfolding into poured
text_is s env temp perm tag start stop n e h b bytes w g i =
    let j : ltb 255 (length (command (view s env temp perm) (execute_of s tag start stop))) ≡ false = rw (← e) (le-ltb _ _ h) in
    i ∙ part_start bytes n ∙ rw (g, e, j) (take-append_seam (command (view s env temp perm) (execute_of s tag start stop)) (drop (length (command (view s env temp perm) (execute_of s tag start stop))) (drop 0 b)))

module _ (m : State) (c : Card) (is : Is m c) where
  pub send_is : (w hand before after : List ℕ) → length w ≤ 255 → hand ≡ laid_marked 257 w → after ≡ poured before 0 w
      → Sends (record { state = record { page = m.page; len = m.len; environment = m.environment; temporary = m.temporary; permanent = m.permanent; trail = m.trail; guard = m.guard; hand = hand; wanted = m.wanted; unit = m.unit; place = m.place }; outcome = Command (length w) }) before after (moved c (send w))
  unfolding moved sending with_run buffer_after in_hand over poured
  send_is w hand before after l h e =
      record {
        comes = record { outcome = refl; state = rw (← is.unit, ← is.place) (new_place m c is hand (by_code w) m.unit m.place (rw h (hand_laid w l)) (rw h (laid_hand w l))) };
        buffer = e;
      }

  pub command_is : (tag start stop : ℕ) (s : List ℕ) → s ≡ take m.len m.page → command (view s m.environment m.temporary m.permanent) (execute_of s tag start stop) ≡ command c (execute_of c.run.page tag start stop)
  command_is tag start stop s p = rw (← view_is m c is s p, page_is m c is s p) (bare_command c (execute_of c.run.page tag start stop))

pub command_counts : (b bytes w : List ℕ) → bytes ≡ into b w → length b ≡ 256 → 256 ≡ length bytes
unfolding into
command_counts b bytes w e l =
    both (ltb longest (length w)) (λ t. rw (e, t) (sym l))
    (λ t. let h = ltb-false longest (length w) t in rw (e, t) (sym (length_poured b 0 w (omega arith) ∙ l)))

pub command_fits : (b w : List ℕ) (n : ℕ) → n ≤ 255 → w ≡ part b 0 n → length w ≤ 255
unfolding part
command_fits b w n h e = let l = length-take (n - 0) (drop 0 b) in rw e (omega arith)

pub ruleset command_bounds = (command_counts, command_fits)
