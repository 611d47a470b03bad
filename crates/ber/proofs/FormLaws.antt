-- How to use what `shortest` answers.
-- Assumes nothing.
use Prim.Native.Nat.{ℕ, ◌-◌, ◌≤◌}
use mathlib.Core.Path.{◌≡◌, refl}
use native.Mathlib.Omega.{arith}
use lib.ListN.{length, take, drop}
use lib.Seq.{take_at}
use lib.Dec.{ltb}
use Rattle.rules.specs.Value.{shortest}
use Rattle.pour.specs.Pour.{blank, padded}
use Rattle.leaf.proofs.Cases.{both}
use Rattle.ber.specs.declared.Form.{Form}
use Rattle.ber.specs.Form.{form_of}

pub shortest_size : (n : ℕ) → (1 ≤ length (shortest n)) × (length (shortest n) ≤ 4)
unfolding shortest
shortest_size n =
    both (ltb n 128) (λ t. simp t (omega arith)) (λ t.
    both (ltb n 256) (λ u. simp (t, u) (omega arith)) (λ u.
    both (ltb n 65536) (λ v. simp (t, u, v) (omega arith)) (λ v. simp (t, u, v) (omega arith))))

-- what a caller reads of the answer
module _ (n : ℕ) (f : Form) (is : f ≡ form_of n) where
  pub form_front : take f.length f.bytes ≡ shortest n
  unfolding form_of padded
  form_front = rw is (take_at (shortest n) (blank (4 - length (shortest n))) (length (shortest n)) refl)

  pub form_part : take (f.length - 0) (drop 0 f.bytes) ≡ shortest n
  unfolding form_of padded
  form_part = rw is (take_at (shortest n) (blank (4 - length (shortest n))) (length (shortest n) - 0) (omega arith))
