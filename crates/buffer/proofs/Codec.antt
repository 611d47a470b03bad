-- Decoding and encoding undo each other: on every buffer of bytes, and on every state in canonical form whose numbers fit two bytes.
-- Assumes nothing.
use Prim.Native.Nat.{ℕ, suc, ◌+◌, ◌-◌, ◌/◌, ◌%◌, ◌≤◌, ◌<◌}
use mathlib.Core.Bool.{true}
use mathlib.Core.List.{List, [], ◌∷◌, ◌++◌, append-nil}
use mathlib.Core.Path.{◌≡◌, refl, sym, ap, ◌∙◌}
use native.Mathlib.Nat.{add-zero}
use native.Mathlib.Numerals.{add-one}
use native.Mathlib.Omega.{arith}
use lib.ListN.{length, get_or, take, drop, length-append, take-append-drop, drop_of_length-le}
use lib.Seq.{drop-drop, drop-cons, take_at, drop_at, get_or-drop}
use lib.Dec.{eqb}
use borrow.Author.Tests.{eqb-true}
use Rattle.pour.specs.Stride.{each, all}
use Rattle.pour.proofs.StrideLaws.{all_first}
use Rattle.rules.specs.Bytes.{part, hex_to, hex}
use Rattle.slots.specs.Slots.{tidy_slot, tidy_slots}
use Rattle.records.specs.Records.{tidy_record, tidy_records}
use Rattle.trail.proofs.TrailLaws.{tidy_long}
use Rattle.word.proofs.Parts.{guard_long, hand_long, wanted_long}
use Rattle.state.specs.declared.State.{State}
use Rattle.state.specs.State.{card, tidy_page, tidy, Is}
use Rattle.state.proofs.Canonical.{tidy_is}
use Rattle.buffer.specs.Buffer.{size, pair_at, decoded, encoded}
use Rattle.buffer.proofs.EncodeLaws.{length_pair}

-- a buffer, read from a place on
module _ (s : List ℕ) (at : ℕ) where
  part_on : (to : ℕ) → at ≤ to → part s at to ++ drop to s ≡ drop at s
  unfolding part
  part_on to h =
      let e : at + (to - at) ≡ to = omega arith in
      ap (λ (k : ℕ). take (to - at) (drop at s) ++ drop k s) (sym e)
      ∙ ap (λ (r : List ℕ). take (to - at) (drop at s) ++ r) (sym (drop-drop (to - at) at s))
      ∙ take-append-drop (to - at) (drop at s)

  pair_on : ((k : ℕ) → get_or s k 0 < 256) → at + 2 ≤ length s → hex 2 (pair_at s at) ++ drop (at + 2) s ≡ drop at s
  unfolding hex_to hex
  pair_on b h =
      let p = b at in
      let q = b (at + 1) in
      let high : pair_at s at / 256 % 256 ≡ get_or s at 0 = omega arith in
      let low : pair_at s at % 256 ≡ get_or s (at + 1) 0 = omega arith in
      let two : at + 2 ≡ suc (suc at) = omega arith in
      rw (high, low, two, add-one at) (sym (drop-cons s at 0 (omega arith) ∙ ap (λ (r : List ℕ). get_or s at 0 ∷ r) (drop-cons s (suc at) 0 (omega arith))))

pub encode_decode : (s : List ℕ) → length s ≡ size → ((k : ℕ) → get_or s k 0 < 256) → encoded (decoded s) ≡ s
unfolding encoded decoded
encode_decode s l b =
    let place : hex 2 (pair_at s 56699) ≡ drop 56699 s =
    sym (append-nil _) ∙ ap (λ (r : List ℕ). hex 2 (pair_at s 56699) ++ r) (sym (drop_of_length-le s {i = size} (omega arith))) ∙ pair_on s 56699 b (omega arith) in
    let unit = pair_on s 56697 b (omega arith) in
    let wanted = part_on s 56631 56697 (omega arith) in
    let hand = part_on s 56374 56631 (omega arith) in
    let guard = part_on s 56356 56374 (omega arith) in
    let trail = part_on s 55298 56356 (omega arith) in
    let permanent = part_on s 37378 55298 (omega arith) in
    let temporary = part_on s 20738 37378 (omega arith) in
    let environment = part_on s 4098 20738 (omega arith) in
    let len = pair_on s 4096 b (omega arith) in
    rw (place, unit, wanted, hand, guard, trail, permanent, temporary, environment, len) (part_on s 0 4096 (omega arith))

-- the lengths of the arrays
pub record Long (m : State) : Type 0 where
  pub page : length m.page ≡ 4096
  pub environment : length m.environment ≡ 16640
  pub temporary : length m.temporary ≡ 16640
  pub permanent : length m.permanent ≡ 17920
  pub trail : length m.trail ≡ 1058
  pub guard : length m.guard ≡ 18
  pub hand : length m.hand ≡ 257
  pub wanted : length m.wanted ≡ 66

page_long : (p : List ℕ) (n : ℕ) → tidy_page p n ≡ true → length p ≡ 4096
unfolding tidy_page
page_long p n t = eqb-true _ _ (all_first (eqb (length p) 4096) _ t)

area_long : (a : List ℕ) → tidy_slots a ≡ true → length a ≡ 16640
unfolding tidy_slots
area_long a t = eqb-true _ _ (all_first (eqb (length a) 16640) (all (each tidy_slot 64 260 a)) t)

records_long : (a : List ℕ) → tidy_records a ≡ true → length a ≡ 17920
unfolding tidy_records
records_long a t = eqb-true _ _ (all_first (eqb (length a) 17920) (all (each tidy_record 64 280 a)) t)

pub tidy_lengths : (m : State) → tidy m ≡ true → Long m
tidy_lengths m t =
    let is : Is m (card m) = tidy_is m t in
    record {
      page = page_long _ _ is.tidy_run;
      environment = area_long _ is.tidy_environment;
      temporary = area_long _ is.tidy_temporary;
      permanent = records_long _ is.tidy_permanent;
      trail = tidy_long _ is.tidy_history;
      guard = guard_long _ is.tidy_guarded;
      hand = hand_long _ is.tidy_held;
      wanted = wanted_long _ is.tidy_want;
    }

-- n bytes that stand at a place, and what stands past them
stands : (s f r : List ℕ) (at n : ℕ) → drop at s ≡ f ++ r → length f ≡ n → (part s at (at + n) ≡ f) × (drop (at + n) s ≡ r)
unfolding part
stands s f r at n e l =
    let w : at + n - at ≡ n = omega arith in
    (rw (w, e) (take_at f r n l), sym (drop-drop n at s) ∙ ap (drop n) e ∙ drop_at f r n l)

pair_here : (s r : List ℕ) (at x : ℕ) → drop at s ≡ hex 2 x ++ r → x < 65536 → pair_at s at ≡ x
unfolding hex_to hex
pair_here s r at x e fits =
    let high : get_or s at 0 ≡ x / 256 % 256 = ap (λ (k : ℕ). get_or s k 0) (sym (add-zero at)) ∙ sym (get_or-drop at s 0 0) ∙ ap (λ (l : List ℕ). get_or l 0 0) e in
    let low : get_or s (at + 1) 0 ≡ x % 256 = sym (get_or-drop at s 1 0) ∙ ap (λ (l : List ℕ). get_or l 1 0) e in
    omega arith

pub length_encoded : (m : State) → tidy m ≡ true → length (encoded m) ≡ size
unfolding encoded
length_encoded m t =
    let l : Long m = tidy_lengths m t in
    simp (length-append, length_pair) (omega arith)

pub decode_encode : (m : State) → tidy m ≡ true → m.len < 65536 → m.unit < 65536 → m.place < 65536 → decoded (encoded m) ≡ m
unfolding encoded decoded
decode_encode m t h i j =
    let l : Long m = tidy_lengths m t in
    let e = encoded m in
    let page = stands e m.page _ 0 4096 refl l.page in
    let len = stands e (hex 2 m.len) _ 4096 2 page.1 (length_pair m.len) in
    let environment = stands e m.environment _ 4098 16640 len.1 l.environment in
    let temporary = stands e m.temporary _ 20738 16640 environment.1 l.temporary in
    let permanent = stands e m.permanent _ 37378 17920 temporary.1 l.permanent in
    let trail = stands e m.trail _ 55298 1058 permanent.1 l.trail in
    let guard = stands e m.guard _ 56356 18 trail.1 l.guard in
    let hand = stands e m.hand _ 56374 257 guard.1 l.hand in
    let wanted = stands e m.wanted _ 56631 66 hand.1 l.wanted in
    let unit = stands e (hex 2 m.unit) _ 56697 2 wanted.1 (length_pair m.unit) in
    let len_is = pair_here e _ 4096 m.len page.1 h in
    let unit-is = pair_here e _ 56697 m.unit wanted.1 i in
    let place_is = pair_here e [] 56699 m.place (unit.1 ∙ sym (append-nil (hex 2 m.place))) j in
    rw (page.0, len_is, environment.0, temporary.0, permanent.0, trail.0, guard.0, hand.0, wanted.0, unit-is, place_is)
