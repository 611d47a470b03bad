-- The ways through `set_one`, `set_all` and `set_length`.
-- Assumes nothing.
use Prim.Native.Nat.{ℕ, ◌+◌, ◌-◌, ◌≤◌, ◌<◌}
use mathlib.Core.Bool.{Bool, true, false, cond}
use mathlib.Core.List.{List}
use mathlib.Core.Path.{◌≡◌, refl, sym, ap, ◌∙◌}
use native.Mathlib.Omega.{arith}
use lib.ListN.{length, get_or, take, drop}
use lib.Dec.{ltb}
use lib.Seq.{take_at}
use borrow.Author.Tests.{lt-ltb, le-ltb}
use Rattle.rules.specs.Bytes.{part}
use Rattle.rules.specs.Tlv.{head_at}
use Rattle.rules.specs.Tlvs.{tlvs}
use Rattle.rules.specs.Card.{Card}
use Rattle.rules.specs.Store.{wrote, no_room, write}
use Rattle.rules.specs.Pieces.{named}
use Rattle.rules.specs.Value.{pieces_of, joined, type_for, shortest}
use Rattle.rules.specs.Step.{number_before, then_set, set_all}
use Rattle.pour.specs.Pour.{poured}
use Rattle.ber.specs.declared.Form.{Form}
use Rattle.ber.specs.Form.{form_of}
use Rattle.ber.proofs.FormLaws.{form_part}
use Rattle.piece.specs.Piece.{pieces_from}
use Rattle.value.specs.Into.{into}
use Rattle.pour.proofs.PourLaws.{length_poured}
use Rattle.leaf.proofs.Cases.{both, tests, was}
use Rattle.variable.specs.View.{seen, view}
use Rattle.setting.proofs.ComplaintLaws.{part_start}
use Rattle.setting.proofs.RowLaws.{pairs_done, pairs_past, pairs_tlv}
use Rattle.std.specs.Prelude.{Option, None, Some}
use Rattle.rules.specs.declared.Tlv.{Tlv}

module _ (c : Card) (n ty : ℕ) (b : List ℕ) (size : ℕ) (is : size ≡ length b) where
  pub one_long : 255 < size → write c n ty b ≡ no_room
  unfolding write
  one_long h = simp (lt-ltb _ _ (rw is at h))

module _ (out b out₀ : List ℕ) (o : out ≡ into out₀ b) where
  pub one_count : length out₀ ≡ 256 → length out ≡ 256
  unfolding into
  one_count l = both (ltb 255 (length b)) (λ t. rw o (simp t l)) (λ t. rw o (simp t (length_poured out₀ 0 b (omega tests) ∙ l)))

  module _ (size : ℕ) (is : size ≡ length b) (h : size ≤ 255) where
    taken : take size out ≡ b
    unfolding into poured
    taken = rw o (simp (le-ltb 255 (length b) (rw is at h)) (take_at b (drop (length b) out₀) size (sym is)))

    pub one_wrote : (v : List ℕ) → v ≡ part out 0 size → (page env temp perm temp₁ perm₁ : List ℕ) (n ty tz : ℕ) → ty ≡ tz → (r : Bool) → ((e : List ℕ) → write (view page e temp perm) n ty v ≡ cond r (wrote (view page e temp₁ perm₁)) no_room) → write (view page env temp perm) n tz b ≡ cond r (wrote (view page env temp₁ perm₁)) no_room
    one_wrote v w page env temp perm temp₁ perm₁ n ty tz f r e = rw (w ∙ part_start out size ∙ taken, f) at (e env)

pub length_wrote : (page env temp perm temp₁ perm₁ v : List ℕ) (n from to size : ℕ) (f : Form) (r : Bool) → size ≡ length (joined (view page env temp perm) (pieces_from true page from to)) → f ≡ form_of size → v ≡ part f.bytes 0 f.length → ((e : List ℕ) → write (view page e temp perm) n 3 v ≡ cond r (wrote (view page e temp₁ perm₁)) no_room) → write (view page env temp perm) n 3 (shortest (length (joined (view page env temp perm) (named (part page from to))))) ≡ cond r (wrote (view page env temp₁ perm₁)) no_room
unfolding pieces_from part
length_wrote page env temp perm temp₁ perm₁ v n from to size f r is fe w e = rw (w ∙ form_part size f fe, is) at (e env)

pub ruleset one_laws = (one_long, one_count, one_wrote, length_wrote)

-- what stays in canonical form
pub still_start : (a : Bool) → cond a a true ≡ true
still_start true = refl
still_start false = refl

pub still_more : (a b c : Bool) → cond a b true ≡ true → (b ≡ true → c ≡ true) → cond a c true ≡ true
still_more true b c e f = f e
still_more false b c e f = refl

pub still_done : (a b : Bool) → cond a b true ≡ true → a ≡ true → b ≡ true
still_done true b e h = e
still_done false b e h = cc

pub still_last : (a b c : Bool) → cond a b true ≡ true → (b ≡ true → c ≡ true) → a ≡ true → c ≡ true
still_last a b c e f h = f (still_done a b e h)

pub ruleset still_laws = (still_start, still_more, still_done, still_last)

module _ (page env temp₀ perm₀ : List ℕ) (start stop : ℕ) where
  module _ (temp perm : List ℕ) (at : ℕ) (inv : set_all (tlvs 1 page at stop) (view page env temp perm) ≡ set_all (tlvs 1 page start stop) (view page env temp₀ perm₀)) where
    pub all_done : stop - at ≤ 1 → set_all (tlvs 1 page start stop) (view page env temp₀ perm₀) ≡ wrote (view page env temp perm)
    unfolding set_all
    all_done h = sym inv ∙ simp (pairs_done page at stop h)

    module _ (h : 1 < stop - at) (r : Option Tlv) (is : r ≡ head_at page (at + 1) stop) where
      pub all_past : r ≡ None → set_all (tlvs 1 page start stop) (view page env temp₀ perm₀) ≡ wrote (view page env temp perm)
      unfolding set_all
      all_past x = sym inv ∙ simp (pairs_past page at stop h (was is x))

      module _ (v : Tlv) (x : r ≡ Some v) (b : Bool) (temp₁ perm₁ : List ℕ) (e : write (view page env temp perm) (get_or page at 0) (type_for (view page env temp perm) v.tag v.start v.stop) (joined (view page env temp perm) (pieces_of page v.tag v.start v.stop)) ≡ cond b (wrote (view page env temp₁ perm₁)) no_room) where
        one : set_all (tlvs 1 page at stop) (view page env temp perm) ≡ then_set (λ d. set_all (tlvs 1 page v.stop stop) d) (cond b (wrote (view page env temp₁ perm₁)) no_room)
        unfolding set_all number_before view seen
        one =
            let z : at + 1 - 1 ≡ at = omega arith in
            rw (pairs_tlv page at stop h (was is x), z) (ap (then_set (λ d. set_all (tlvs 1 page v.stop stop) d)) e)

        pub all_more : b ≡ true → set_all (tlvs 1 page v.stop stop) (view page env temp₁ perm₁) ≡ set_all (tlvs 1 page start stop) (view page env temp₀ perm₀)
        unfolding then_set
        all_more y = sym (one ∙ simp y) ∙ inv

        pub all_full : b ≡ false → set_all (tlvs 1 page start stop) (view page env temp₀ perm₀) ≡ no_room
        unfolding then_set
        all_full y = sym inv ∙ one ∙ simp y

pub ruleset all_laws = (all_done, all_past, all_more, all_full)
