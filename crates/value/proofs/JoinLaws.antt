-- The ways through `join_from`.
-- Assumes nothing.
use Prim.Native.Nat.{ℕ, ◌+◌, ◌≤◌, ◌<◌}
use mathlib.Core.Bool.{Bool}
use mathlib.Core.List.{List, ◌++◌}
use mathlib.Core.Path.{◌≡◌, sym, ◌∙◌}
use lib.ListN.{length}
use Rattle.rules.specs.declared.Pair.{Pair}
use Rattle.rules.specs.declared.Pair.TheVariants.{Text, Number, Broken}
use Rattle.rules.specs.Bytes.{part}
use Rattle.rules.specs.Card.{Card}
use Rattle.rules.specs.Store.{read, value_bytes}
use Rattle.rules.specs.Value.{joined}
use Rattle.pour.specs.Pour.{poured}
use Rattle.build.proofs.BuildLaws.{poured_none, one_room, one_more_lem, rest_room}
use Rattle.leaf.proofs.Cases.{was}
use Rattle.variable.specs.View.{seen, view}
use Rattle.piece.specs.Piece.{pieces_from, piece_at}
use Rattle.piece.proofs.PieceLaws.{from_full, from_text, from_variable, from_cut}

module _ (page env temp perm : List ℕ) (list : Bool) (from at end : ℕ) (out₀ out : List ℕ) (place n : ℕ) where
  abbrev c : Card
  c = view page env temp perm

  abbrev whole : List ℕ
  whole = joined c (pieces_from list page from end)

  module _ (inv : poured out n (joined c (pieces_from list page at end)) ≡ poured out₀ place whole) where
    pub join_done : end ≤ at → out ≡ poured out₀ place whole
    unfolding joined
    join_done h = sym (poured_none out n) ∙ (rw (from_full page at end list h) at inv)

    module _ (h : at < end) (p : Pair) (is : p ≡ piece_at list page at end) where
      pub join_cut : p ≡ Broken → out ≡ poured out₀ place whole
      unfolding joined
      join_cut x = sym (poured_none out n) ∙ (rw (from_cut page at end h list (was is x)) at inv)

      module _ (room : n + length (joined c (pieces_from list page at end)) ≤ length out) where
        module _ (a b : ℕ) (x : p ≡ Text a b) (v : List ℕ) (e : v ≡ part page a b) where
          abbrev rest : List ℕ
          rest = joined c (pieces_from list page b end)

          unfolds : joined c (pieces_from list page at end) ≡ v ++ rest
          unfolding joined view seen
          unfolds = rw (from_text page at end h list (was is x), e)

          pub text_room : n + length v ≤ length out
          text_room = one_room out₀ out whole rest v place n (rw unfolds at inv) (rw unfolds at room)

          module _ (d : List ℕ) (f : d ≡ poured out n v) (m : ℕ) (g : m ≡ n + length v) where
            pub text_joined : poured d m rest ≡ poured out₀ place whole
            text_joined = one_more_lem out₀ out whole rest v place n (rw unfolds at inv) (rw unfolds at room) d f m g

            pub text_rest : m + length rest ≤ length d
            text_rest = rest_room out₀ out whole rest v place n (rw unfolds at inv) (rw unfolds at room) d f m g

        module _ (k : end ≤ length page) (number next : ℕ) (x : p ≡ Number number next) (v : List ℕ) (e : v ≡ value_bytes (read c number)) where
          abbrev after : List ℕ
          after = joined c (pieces_from list page next end)

          opens : joined c (pieces_from list page at end) ≡ v ++ after
          unfolding joined
          opens = rw (from_variable page at end h list k (was is x), e)

          pub variable_room : n + length v ≤ length out
          variable_room = one_room out₀ out whole after v place n (rw opens at inv) (rw opens at room)

          module _ (d : List ℕ) (f : d ≡ poured out n v) (m : ℕ) (g : m ≡ n + length v) where
            pub variable_joined : poured d m after ≡ poured out₀ place whole
            variable_joined = one_more_lem out₀ out whole after v place n (rw opens at inv) (rw opens at room) d f m g

            pub variable_rest : m + length after ≤ length d
            variable_rest = rest_room out₀ out whole after v place n (rw opens at inv) (rw opens at room) d f m g

pub ruleset join_laws = (join_done, join_cut, text_room, text_joined, text_rest, variable_room, variable_joined, variable_rest)
