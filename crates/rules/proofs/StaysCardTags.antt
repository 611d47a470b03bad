-- A TLV that the loader found in its place has a tag of its container's, so that what it holds is known.
-- Assumes nothing.
use mathlib.Core.Path.{◌≡◌, refl}
use mathlib.Core.Bool.{Bool, true, false, cond, true≢false, false≢true}
use mathlib.Core.List.{List, [], ◌∷◌, ◌++◌}
use Prim.Native.Nat.{ℕ, ◌+◌, ◌-◌, ◌%◌, ◌≤◌}
use native.Mathlib.Nat.{add-zero}
use native.Mathlib.Omega.{arith}
use lib.ListN.{get_or}
use lib.Dec.{ltb, eqb}
use borrow.Author.Tests.{eqb-true, eqb-false, ltb-false, eq-eqb}
use Rattle.rules.specs.Bytes.{among}
use Rattle.rules.specs.Tlv.{head_at}
use Rattle.rules.specs.Tlvs.{Tlvs, done, past, tlv, plain}
use Rattle.rules.specs.Grammar.{Entry, grammar, cell_in, cell_of, misplaced, command_kind, action_kind}
use Rattle.rules.specs.Shape.{inner, shape_of, fixed_of, follows_of, kind_of, attribute, attributes_end, added, kind_at, contents, value_at, after_attributes, body_of}
use Rattle.rules.specs.Page.{spot_or, content_at}
use Rattle.rules.specs.Forms.{out_of_place}
use Rattle.rules.specs.declared.Body.TheVariants.{Inner, Short}
use Rattle.rules.proofs.Built.{same_tlv}
use Rattle.rules.proofs.Choices.{both}
use Rattle.rules.proofs.BlankTests.{first, second}
use Rattle.rules.proofs.IsolationRows.{Row, tlv_in}
use Rattle.rules.proofs.StaysCardWalk.{Walked, Sound, Inside, Proper, sound_tlv}
use Rattle.std.specs.Prelude.{Option, Some, None}
use Rattle.rules.specs.Built.{some_tlv}

-- a test of every number of a list
unfoldable pub every : (ℕ → Bool) → List ℕ → Bool
every f [] = true
every f (x ∷ xs) = cond (f x) (every f xs) false

every_among : (f : ℕ → Bool) (xs : List ℕ) (t : ℕ) → every f xs ≡ true → among xs t ≡ true → f t ≡ true
unfolding every among
every_among f [] t e h = absurd (false≢true h)
every_among f (x ∷ xs) t e h =
    both (eqb t x)
    (λ q. rw (eqb-true t x q) (first (f x) _ e))
    (λ q. every_among f xs t (second (f x) _ e) (rw q at h))

-- the tags that may stand in a container
unfoldable pub tags_of : List Entry → List ℕ
tags_of [] = []
tags_of (p ∷ ps) = p.tags ++ tags_of ps

among_left : (xs ys : List ℕ) (t : ℕ) → among xs t ≡ true → among (xs ++ ys) t ≡ true
unfolding among
among_left [] ys t h = absurd (false≢true h)
among_left (x ∷ xs) ys t h = both (eqb t x) (λ q. rw q) (λ q. rw q (among_left xs ys t (rw q at h)))

among_right : (xs ys : List ℕ) (t : ℕ) → among ys t ≡ true → among (xs ++ ys) t ≡ true
unfolding among
among_right [] ys t h = h
among_right (x ∷ xs) ys t h = both (eqb t x) (λ q. rw q) (λ q. rw q (among_right xs ys t h))

cell_known : (place : ℕ) (ps : List Entry) (t : ℕ) → (cell_in place ps t ≡ 0 → ⊥) → among (tags_of ps) t ≡ true
unfolding cell_in tags_of
cell_known place [] t h = absurd (h refl)
cell_known place (p ∷ ps) t h =
    both (among p.tags t)
    (λ q. among_left p.tags (tags_of ps) t q)
    (λ q. among_right p.tags (tags_of ps) t (cell_known (place + 1) ps t (λ e. h (rw q e))))

-- where a part stands that is not out of its place
pub record InPlace (last cell : ℕ) : Type 0 where
  pub named : cell ≡ 0 → ⊥
  pub ordered : last ≤ cell
  pub again : cell ≡ last → 3 ≤ cell % 16

in_place : (last cell : ℕ) → misplaced last cell ≡ false → InPlace last cell
unfolding misplaced
in_place last cell h =
    both (eqb cell 0) (λ t. absurd (true≢false (rw t at h)))
    (λ t. both (ltb cell last) (λ u. absurd (true≢false (rw (t, u) at h)))
    (λ u. record {
      named = eqb-false cell 0 t;
      ordered = ltb-false cell last u;
      again = λ e. ltb-false (cell % 16) 3 (rw (t, u, eq-eqb cell last e) at h);
    }))

module _ (s : List ℕ) (left within from last tag at start stop : ℕ) (proper : Proper s left within from last tag at start stop) where
  pub its_place : InPlace last (cell_of within tag)
  unfolding out_of_place
  its_place =
      both (misplaced last (cell_of within tag)) (λ t. absurd (true≢false (rw t at proper.placed))) (λ t. in_place last (cell_of within tag) t)

  -- what holds of every tag of the container
  pub known_tag : (f : ℕ → Bool) → every f (tags_of (get_or grammar within [])) ≡ true → f tag ≡ true
  unfolding cell_of
  known_tag f e = every_among f (tags_of (get_or grammar within [])) tag e (cell_known 1 (get_or grammar within []) tag its_place.named)

-- the value of a tag that says TLVs, after its attributes and fixed bytes
module _ (s : List ℕ) (tag start stop : ℕ) (P : ℕ → ℕ → Type 0) where
  after_fixed : (shape a : ℕ) (p : Option ℕ) → follows_of shape ≡ inner → Inside P (after_attributes s shape a stop p) →
      P (kind_at s (kind_of shape) (spot_or stop p) stop) (spot_or stop p + fixed_of shape)
  unfolding after_attributes spot_or value_at contents added
  after_fixed shape a (Some p) e h =
      let k : Inside P (cond (ltb (stop - p) (fixed_of shape)) Short (Inner (kind_at s (kind_of shape) p stop) (p + fixed_of shape))) = rw (e, add-zero (fixed_of shape)) at h in
      both (ltb (stop - p) (fixed_of shape)) (λ t. absurd (rw t at k)) (λ t. rw t at k)
  after_fixed shape a None e h = absurd h

  pub inner_of : (within : ℕ) → eqb within command_kind ≡ false → follows_of (shape_of tag) ≡ inner → Inside P (body_of s within tag start stop) →
      P (kind_at s (kind_of (shape_of tag)) (content_at s tag start stop) stop) (content_at s tag start stop + fixed_of (shape_of tag))
  unfolding body_of content_at follows_of
  inner_of within c e h =
      both (eqb (shape_of tag) 0)
      (λ t. let z : ◌≡◌ {A = ℕ} 0 2 = rw (eqb-true (shape_of tag) 0 t) at e in absurd (omega arith))
      (λ t. after_fixed (shape_of tag) (attribute s tag start stop) (attributes_end s tag start stop) e (rw (c, t) at h))

-- a tag with this plain form has this kind of container, behind so many fixed bytes
unfoldable pub shaped_as : (form kind fixed : ℕ) → ℕ → Bool
shaped_as form kind fixed t =
    cond (eqb (plain t) form) (cond (eqb (follows_of (shape_of t)) inner) (cond (eqb (kind_of (shape_of t)) kind) (eqb (fixed_of (shape_of t)) fixed) false) false) true

kind_kept : (s : List ℕ) (kind at stop : ℕ) → eqb kind action_kind ≡ false → kind_at s kind at stop ≡ kind
unfolding kind_at
kind_kept s kind at stop e = rw e

module _ (s : List ℕ) (left within from last tag at start stop : ℕ) (proper : Proper s left within from last tag at start stop) (judged : eqb within command_kind ≡ false) where
  -- the container that a TLV of such a tag is
  pub shaped : (form kind fixed : ℕ) → every (shaped_as form kind fixed) (tags_of (get_or grammar within [])) ≡ true → eqb (plain tag) form ≡ true →
      eqb (kind_at s kind (content_at s tag start stop) stop) command_kind ≡ false → Walked s left (kind_at s kind (content_at s tag start stop) stop) at (content_at s tag start stop + fixed) stop
  unfolding shaped_as
  shaped form kind fixed all e c =
      let k : cond (eqb (plain tag) form) (cond (eqb (follows_of (shape_of tag)) inner) (cond (eqb (kind_of (shape_of tag)) kind) (eqb (fixed_of (shape_of tag)) fixed) false) false) true ≡ true =
      known_tag s left within from last tag at start stop proper (shaped_as form kind fixed) all in
      let k0 : cond (eqb (follows_of (shape_of tag)) inner) (cond (eqb (kind_of (shape_of tag)) kind) (eqb (fixed_of (shape_of tag)) fixed) false) false ≡ true = rw e at k in
      let k1 = second (eqb (follows_of (shape_of tag)) inner) _ k0 in
      let f1 = eqb-true (follows_of (shape_of tag)) inner (first (eqb (follows_of (shape_of tag)) inner) _ k0) in
      let f2 = eqb-true (kind_of (shape_of tag)) kind (first (eqb (kind_of (shape_of tag)) kind) _ k1) in
      let f3 = eqb-true (fixed_of (shape_of tag)) fixed (second (eqb (kind_of (shape_of tag)) kind) _ k1) in
      let w = inner_of s tag start stop (λ kind p. eqb kind command_kind ≡ false → Walked s left kind at p stop) within judged f1 proper.into in
      (rw (f2, f3) at w) c

  pub enter : (form kind fixed : ℕ) → every (shaped_as form kind fixed) (tags_of (get_or grammar within [])) ≡ true → eqb (plain tag) form ≡ true →
      eqb kind command_kind ≡ false → eqb kind action_kind ≡ false → Walked s left kind at (content_at s tag start stop + fixed) stop
  enter form kind fixed all e c a =
      let k = kind_kept s kind (content_at s tag start stop) stop a in
      rw k at (shaped form kind fixed all e (rw k c))

-- the first TLV of a row, and what follows it
pub first_proper : (s : List ℕ) (end left within from last at tag start stop : ℕ) (r : Tlvs) → Row s end at r → Sound s left within from last r → head_at s at end ≡ some_tlv tag start stop →
    Proper s left within from last tag at start stop × ((rest : Tlvs) × Row s end stop rest × Sound s left within from (cell_of within tag) rest)
first_proper s end left within from last at tag start stop (done p) k h e = let i = tlv_in s at end tag start stop e in absurd (omega arith)
first_proper s end left within from last at tag start stop (past p) k h e = let z : ◌≡◌ {A = ℕ} 0 1 = cc in absurd (omega arith)
first_proper s end left within from last at tag start stop (tlv t p a b rest) k h e =
    let same : some_tlv t a b ≡ some_tlv tag start stop = cc in
    let y = same_tlv same in
    let i = sound_tlv s left within from last t p a b rest h in
    (rw (k.0, y.0, y.1, y.2) at i.0, (rest, rw y.2 at k.2, rw y.0 at i.1))
