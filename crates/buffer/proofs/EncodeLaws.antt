-- A buffer filled field by field from its front, in the shape of what the proof needs.
-- Assumes nothing.
use Prim.Native.Nat.{ℕ, ◌+◌, ◌≤◌}
use mathlib.Core.List.{List, [], ◌++◌, append_assoc}
use mathlib.Core.Path.{◌≡◌, refl, sym, ap, ◌∙◌}
use native.Mathlib.Omega.{arith}
use lib.ListN.{length, take, drop, length-append}
use lib.Seq.{take_all, take_at, length-take-le}
use Rattle.pour.specs.Pour.{poured}
use Rattle.pour.proofs.PourLaws.{length_poured}
use Rattle.rules.specs.Bytes.{hex_to, hex}
use Rattle.state.specs.declared.State.{State}
use Rattle.buffer.specs.Buffer.{size, encoded}

pub length_pair : (number : ℕ) → length (hex 2 number) ≡ 2
unfolding hex_to hex
length_pair number = refl

-- a buffer that holds these bytes below a place
pub record Laid (s : List ℕ) (at : ℕ) (front : List ℕ) : Type 0 where
  pub long : length s ≡ size
  pub below : take at s ≡ front

pub laid_none : (s : List ℕ) → length s ≡ size → Laid s 0 []
laid_none s l = record { long = l; below = refl }

pub room : {x k : ℕ} (at n : ℕ) → k ≡ size → x ≡ n → at + n ≤ size → at + x ≤ k
room at n l e fits = omega arith

module _ {s t front : List ℕ} {at : ℕ} (n : ℕ) (laid : Laid s at front) where
  pub laid_more : (f : List ℕ) → t ≡ poured s at f → length f ≡ n → at + n ≤ size → Laid t (at + n) (front ++ f)
  unfolding poured
  laid_more f e l fits =
      let r : at + length f ≤ length s = room at n laid.long l fits in
      let m : length (front ++ f) ≡ at + n = length-append front f ∙ omega (arith, ap length laid.below, length-take-le at s (omega (arith, laid.long))) in
      record {
        long = ap length e ∙ length_poured s at f r ∙ laid.long;
        below =
            ap (take (at + n)) (e ∙ rw laid.below (sym (append_assoc front f (drop (length f) (drop at s)))))
            ∙ take_at (front ++ f) (drop (length f) (drop at s)) (at + n) m;
      }

pub encoded_is : (m : State) (s : List ℕ) → Laid s size (m.page ++ hex 2 m.len ++ m.environment ++ m.temporary ++ m.permanent ++ m.trail ++ m.guard ++ m.hand ++ m.wanted ++ hex 2 m.unit ++ hex 2 m.place) → s ≡ encoded m
unfolding encoded
encoded_is m s laid = sym (take_all size s (omega (arith, laid.long))) ∙ laid.below ∙ simp append_assoc
