-- The ways through `put_details` and `command_into`.
-- Assumes nothing.
use Prim.Native.Nat.{ℕ, ◌+◌, ◌≤◌, ◌<◌}
use mathlib.Core.List.{List, [], ◌∷◌, ◌++◌}
use mathlib.Core.Path.{◌≡◌, refl, sym, ap, ◌∙◌}
use native.Mathlib.Omega.{arith}
use lib.ListN.{length, get_or, length-append}
use borrow.Author.Tests.{lt-ltb, le-ltb}
use Rattle.rules.specs.Tlvs.{tlvs}
use Rattle.rules.specs.Card.{Card}
use Rattle.rules.specs.Value.{shortest}
use Rattle.rules.specs.Command.{Execute, execute_of, type_at, simple_tlvs, expanded, command_body, enveloped, command}
use Rattle.pour.specs.Pour.{poured}
use Rattle.pour.proofs.PourLaws.{length_poured}
use Rattle.build.proofs.BuildLaws.{poured_more}
use Rattle.variable.specs.View.{seen, view}
use Rattle.value.specs.Into.{into}
use Rattle.command.specs.Sent.{details}

pub details_put : (s : List ℕ) (at k q z : ℕ) → k ≡ get_or s at 0 → q ≡ get_or s (at + 1) 0 → z ≡ get_or s (at + 2) 0 → (out d : List ℕ) (place : ℕ) → d ≡ poured out place (0x81 ∷ 0x03 ∷ 0x01 ∷ k ∷ q ∷ 0x82 ∷ 0x02 ∷ 0x81 ∷ z ∷ []) → d ≡ poured out place (details s at)
unfolding details
details_put s at k q z e f g out d place h = h ∙ rw (e, f, g)

nine : (s : List ℕ) (at : ℕ) → length (details s at) ≡ 9
unfolding details
nine s at = refl

module _ (page env temp perm : List ℕ) (tag start stop at : ℕ) (is : at ≡ type_at (execute_of page tag start stop)) where
  abbrev c : Card
  c = view page env temp perm

  abbrev x : Execute
  x = execute_of page tag start stop

  abbrev simple : List ℕ
  simple = expanded c (tlvs 0 page (at + 3) stop)

  body_is : command_body c x ≡ details page at ++ simple
  unfolding command_body details simple_tlvs view seen execute_of
  body_is = rw is

  module _ (e : ℕ) (f : e ≡ length simple) where
    body_length : 9 + e ≡ length (command_body c x)
    body_length = sym (ap length body_is ∙ length-append (details page at) simple ∙ rw (nine page at, f))

    module _ (h : ℕ) (g : h ≡ 1 + length (shortest (9 + e))) where
      whole : command c x ≡ (0xD0 ∷ shortest (9 + e)) ++ (details page at ++ simple)
      unfolding command enveloped
      whole = rw (← body_length, body_is)

      pub command_length_lem : h + (9 + e) ≡ length (command c x)
      command_length_lem = sym (ap length whole ∙ length-append (0xD0 ∷ shortest (9 + e)) (details page at ++ simple) ∙ (rw (length-append (details page at) simple, nine page at) (omega arith)))

      pub command_over : (out : List ℕ) → 255 < h + (9 + e) → out ≡ into out (command c x)
      unfolding into
      command_over out k = simp (← command_length_lem, lt-ltb _ _ k)

      module _ (k : h + (9 + e) ≤ 255) (out : List ℕ) (long : length out ≡ 256) where
        pub header_room : 0 + 1 + length (shortest (9 + e)) ≤ length out
        header_room = omega arith

        module _ (first : ℕ) (i : first ≡ 0 + length (0xD0 ∷ shortest (9 + e))) (d : List ℕ) (j : d ≡ poured out 0 (0xD0 ∷ shortest (9 + e))) where
          long_d : length d ≡ 256
          long_d = ap length j ∙ length_poured out 0 (0xD0 ∷ shortest (9 + e)) (omega arith) ∙ long

          pub details_room : first + 9 ≤ length d
          details_room = omega (arith, long_d)

          module _ (next : ℕ) (l : next ≡ first + 9) (d2 : List ℕ) (m : d2 ≡ poured d first (details page at)) where
            pub simple_room : next + length simple ≤ length d2
            simple_room = let q = ap length m ∙ length_poured d first (details page at) (rw (nine page at) (omega (arith, long_d))) in omega (arith, long_d)

            pub command_sent : (z : List ℕ) → z ≡ poured d2 next simple → z ≡ into out (command c x)
            unfolding into
            command_sent z n =
                let a : next ≡ first + length (details page at) = rw (nine page at) l in
                simp (← command_length_lem, le-ltb _ _ k)
                (n ∙ rw (m, a, poured_more d first (details page at) simple (omega (arith, long_d)), j, i, poured_more out 0 (0xD0 ∷ shortest (9 + e)) (details page at ++ simple) (omega arith), ← whole))

pub ruleset command_laws = (command_length_lem, command_over, header_room, details_room, simple_room, command_sent)
