-- The ways through the writes of a response's results.
-- Assumes nothing.
use Prim.Native.Nat.{ℕ, ◌+◌, ◌/◌, ◌%◌}
use mathlib.Core.Bool.{Bool, true, false, cond}
use mathlib.Core.List.{List, [], ◌∷◌}
use mathlib.Core.Path.{◌≡◌, refl, ap, ◌∙◌}
use lib.ListN.{get_or}
use lib.Dec.{ltb, eqb}
use borrow.Author.Tests.{eq-eqb, ne_eqb}
use Rattle.rules.specs.Tlvs.{plain}
use Rattle.rules.specs.Card.{Card, held}
use Rattle.rules.specs.Store.{Written, wrote, no_room, write, value_bytes, value_type}
use Rattle.rules.specs.Command.{has_general, optimises, has_output, general_number, output_number, optimised, output, write_slot, then_output, results}
use Rattle.leaf.proofs.Cases.{both}
use Rattle.variable.specs.View.{seen, view}
use Rattle.results.specs.Asked.{asked}
use Rattle.std.specs.Prelude.{Option, Some, None}
use Rattle.rules.specs.declared.Tlv.{Tlv}

module _ (page env t p : List ℕ) (a at stop g : ℕ) where
  module _ (h : a % 2 ≡ 1) (number : ℕ) (e : number ≡ get_or page at 0) where
    pub general_wrote : (r : Bool) (u q : List ℕ) → ((v : List ℕ) → write (view page v t p) number 0 (g ∷ []) ≡ cond r (wrote (view page v u q)) no_room) → cond (has_general (asked a at stop)) (write (view page env t p) (general_number page (asked a at stop)) 0 (g ∷ [])) (wrote (view page env t p)) ≡ cond r (wrote (view page env u q)) no_room
    unfolding has_general general_number asked
    general_wrote r u q f = simp (eq-eqb _ _ h) (rw e at (f env))

  pub general_none : (a % 2 ≡ 1 → ⊥) → cond (has_general (asked a at stop)) (write (view page env t p) (general_number page (asked a at stop)) 0 (g ∷ [])) (wrote (view page env t p)) ≡ wrote (view page env t p)
  unfolding has_general asked
  general_none h = simp (ne_eqb _ _ h)

pub ruleset general_laws = (general_wrote, general_none)

-- an output is a value
optimised_value : (c : Card) (n : ℕ) (r : List ℕ) (after : Option Tlv) → write_slot c n (optimised r after) ≡ write c n (value_type (optimised r after)) (value_bytes (optimised r after))
unfolding optimised write_slot value_type value_bytes
optimised_value c n r None = refl
optimised_value c n r (Some h) =
    both (eqb (plain h.tag) 0x0D) (λ t. both (ltb h.start h.stop) (λ u. simp (t, u)) (λ u. simp (t, u))) (λ t. simp t)

output_value : (c : Card) (n : ℕ) (q : Bool) (r : List ℕ) (after : Option Tlv) → write_slot c n (cond q (optimised r after) (held 0 r)) ≡ write c n (value_type (cond q (optimised r after) (held 0 r))) (value_bytes (cond q (optimised r after) (held 0 r)))
unfolding write_slot value_type value_bytes
output_value c n true r after = optimised_value c n r after
output_value c n false r after = refl

module _ (page env t p b : List ℕ) (a at stop : ℕ) (after : Option Tlv) where
  module _ (h : a / 4 % 2 ≡ 1) (w : ℕ) (wide : w ≡ a % 2) (number : ℕ) (e : number ≡ get_or page (at + w) 0) where
    pub output_wrote : (ty : ℕ) (bs : List ℕ) → ty ≡ value_type (cond (eqb (a / 2 % 2) 1) (optimised b after) (held 0 b)) → bs ≡ value_bytes (cond (eqb (a / 2 % 2) 1) (optimised b after) (held 0 b)) → (r : Bool) (u q : List ℕ) → ((v : List ℕ) → write (view page v t p) number ty bs ≡ cond r (wrote (view page v u q)) no_room) → cond (has_output (asked a at stop)) (write_slot (view page env t p) (output_number page (asked a at stop)) (output b (asked a at stop) after)) (wrote (view page env t p)) ≡ cond r (wrote (view page env u q)) no_room
    unfolding has_output output_number output optimises asked
    output_wrote ty bs k l r u q f = simp (eq-eqb _ _ h) (output_value (view page env t p) (get_or page (at + a % 2) 0) (eqb (a / 2 % 2) 1) b after ∙ rw (← wide, ← e, ← k, ← l) (f env))

  pub output_none : (a / 4 % 2 ≡ 1 → ⊥) → cond (has_output (asked a at stop)) (write_slot (view page env t p) (output_number page (asked a at stop)) (output b (asked a at stop) after)) (wrote (view page env t p)) ≡ wrote (view page env t p)
  unfolding has_output asked
  output_none h = simp (ne_eqb _ _ h)

pub ruleset output_laws = (output_wrote, output_none)

module _ (page env t p b : List ℕ) (a at stop g : ℕ) (after : Option Tlv) (r : Bool) (t₁ p₁ : List ℕ) (f : (v : List ℕ) (s : ℕ) → cond (has_general (asked a at s)) (write (view page v t p) (general_number page (asked a at s)) 0 (g ∷ [])) (wrote (view page v t p)) ≡ cond r (wrote (view page v t₁ p₁)) no_room) where
  pub results_full : r ≡ false → results (view page env t p) (asked a at stop) g b after ≡ no_room
  unfolding results then_output view seen
  results_full y = ap (then_output b (asked a at stop) after) (rw y at (f env stop))

  pub results_wrote : r ≡ true → (z : Written) → cond (has_output (asked a at stop)) (write_slot (view page env t₁ p₁) (output_number page (asked a at stop)) (output b (asked a at stop) after)) (wrote (view page env t₁ p₁)) ≡ z → results (view page env t p) (asked a at stop) g b after ≡ z
  unfolding results then_output view seen
  results_wrote y z k = ap (then_output b (asked a at stop) after) (rw y at (f env stop)) ∙ k
