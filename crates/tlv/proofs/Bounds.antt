-- Where the lengths, TLVs and pairs of specs/Tlv.antt and specs/Pieces.antt lie, and where attributes end.
-- Assumes nothing.
use Prim.Native.Nat.{ℕ, zero, suc, ◌+◌, ◌-◌, ◌≤◌, ◌<◌}
use mathlib.Core.Bool.{Bool}
use mathlib.Core.List.{List}
use lib.ListN.{get_or}
use lib.Dec.{ltb, leb, eqb}
use mathlib.Core.Path.{◌≡◌, sym, subst, ◌∙◌}
use native.Mathlib.Omega.{arith}
use Rattle.rules.specs.declared.Pair.{Pair}
use Rattle.rules.specs.declared.Pair.TheVariants.{Text, Number, Broken}
use Rattle.rules.specs.Tlv.{length_at, head_at, head_of}
use Rattle.rules.specs.Pieces.{indicates, text_of, pair_at}
use Rattle.rules.specs.Shape.{attributes_in, attributes_end}
use Rattle.rules.specs.Page.{spot_or, content_at}
use Rattle.leaf.proofs.Cases.{both, tests}
use Rattle.std.specs.Prelude.{Option, Some, None}
use Rattle.rules.specs.declared.Tlv.{Tlv}

-- a length that was read lies before the end
abbrev LengthIn : ℕ → ℕ → Option (ℕ × ℕ) → Type 0
LengthIn at end (Some p) = (at < p.1) × (p.1 ≤ end)
LengthIn at end None = Unit {0}

length_in : (s : List ℕ) (at end : ℕ) → LengthIn at end (length_at s at end)
unfolding length_at
length_in s at end =
    both (leb end at) (λ t. simp t tt) (λ t.
    both (ltb (get_or s at 0) 128) (λ t2. simp (t, t2) (omega tests)) (λ t2.
    both (eqb (get_or s at 0) 129) (λ t3. both (ltb (end - at) 2) (λ t4. simp (t, t2, t3, t4) tt) (λ t4. simp (t, t2, t3, t4) (omega tests))) (λ t3.
    both (eqb (get_or s at 0) 130) (λ t4. both (ltb (end - at) 3) (λ t5. simp (t, t2, t3, t4, t5) tt) (λ t5. simp (t, t2, t3, t4, t5) (omega tests)))
    (λ t4. simp (t, t2, t3, t4) tt))))

pub length_got : (s : List ℕ) (at end : ℕ) {n next : ℕ} → length_at s at end ≡ Some (n, next) → (at < next) × (next ≤ end)
length_got s at end e = subst (LengthIn at end) e (length_in s at end)

-- a TLV that was read lies before the end
abbrev pub HeadIn : ℕ → ℕ → Option Tlv → Type 0
HeadIn at end (Some h) = (at < h.start) × (h.start ≤ h.stop) × (h.stop ≤ end)
HeadIn at end None = Unit {0}

head_of_in : (tag at end : ℕ) (l : Option (ℕ × ℕ)) → LengthIn (at + 1) end l → HeadIn at end (head_of tag end l)
unfolding head_of
head_of_in tag at end (Some p) h = both (ltb (end - p.1) p.0) (λ t. simp t tt) (λ t. simp t (omega tests))
head_of_in tag at end None h = tt

pub head_in : (s : List ℕ) (at end : ℕ) → HeadIn at end (head_at s at end)
unfolding head_at
head_in s at end = both (leb end at) (λ t. simp t tt) (λ t. simp t (head_of_in _ at end (length_at s (at + 1) end) (length_in s (at + 1) end)))

pub head_tlv : (s : List ℕ) (at end : ℕ) {v : Tlv} → head_at s at end ≡ Some v → (at < v.start) × (v.start ≤ v.stop) × (v.stop ≤ end)
head_tlv s at end e = subst (HeadIn at end) e (head_in s at end)

-- what a loop over the TLVs of a container needs: the rest is shorter, a count stays below the place, the value lies in the bytes
module _ (s : List ℕ) (at end : ℕ) (r : Option Tlv) (is : r ≡ head_at s at end) (v : Tlv) (x : r ≡ Some v) where
  inside : (at < v.start) × (v.start ≤ v.stop) × (v.stop ≤ end)
  inside = head_tlv s at end (sym is ∙ x)

  pub next_less : end - v.stop < end - at
  next_less = let b = inside in omega arith

  pub next_counted : (n : ℕ) → n ≤ at → n + 1 ≤ v.stop
  next_counted n h = let b = inside in omega arith

  pub next_room : (n m : ℕ) → n ≤ at → end < m → n + 1 < m
  next_room n m h k = let b = inside in omega arith

  pub next_above : (n : ℕ) → n ≤ at → n ≤ v.stop
  next_above n h = let b = inside in omega arith

  pub next_within : (n : ℕ) → end ≤ n → v.stop ≤ n
  next_within n h = let b = inside in omega arith

  pub next_byte : (p n : ℕ) → p < v.stop → end ≤ n → p < n
  next_byte p n h k = let b = inside in omega arith

  pub next_ordered : v.start ≤ v.stop
  next_ordered = let b = inside in omega arith

pub ruleset next_laws = (next_less, next_counted, next_room, next_above, next_within, next_byte, next_ordered)

-- a pair that was read lies before the end
abbrev pub PairIn : ℕ → ℕ → Pair → Type 0
PairIn at end (Text from to) = (at < from) × (from ≤ to) × (to ≤ end)
PairIn at end (Number n next) = (at < next) × (next ≤ end)
PairIn at end Broken = Unit {0}

text_in : (at end : ℕ) (l : Option (ℕ × ℕ)) → LengthIn at end l → PairIn at end (text_of end l)
unfolding text_of
text_in at end (Some p) h = both (ltb (end - p.1) p.0) (λ t. simp t tt) (λ t. simp t (omega tests))
text_in at end None h = tt

pub pair_in : (substituted : Bool) (s : List ℕ) (at end : ℕ) → PairIn at end (pair_at substituted s at end)
unfolding pair_at
pair_in substituted s at end =
    both (leb end at) (λ t. simp t tt) (λ t.
    both (indicates substituted (get_or s at 0)) (λ t2. both (ltb (end - at) 2) (λ t3. simp (t, t2, t3) tt) (λ t3. simp (t, t2, t3) (omega tests)))
    (λ t2. simp (t, t2) (text_in at end (length_at s at end) (length_in s at end))))

pub pair_text : (substituted : Bool) (s : List ℕ) (at end : ℕ) {from to : ℕ} → pair_at substituted s at end ≡ Text from to → (at < from) × (from ≤ to) × (to ≤ end)
pair_text substituted s at end e = subst (PairIn at end) e (pair_in substituted s at end)

pub pair_number : (substituted : Bool) (s : List ℕ) (at end : ℕ) {n next : ℕ} → pair_at substituted s at end ≡ Number n next → (at < next) × (next ≤ end)
pair_number substituted s at end e = subst (PairIn at end) e (pair_in substituted s at end)

-- what a loop over the pairs of a value needs: the rest is shorter
module _ (substituted : Bool) (s : List ℕ) (at end : ℕ) (p : Pair) (is : p ≡ pair_at substituted s at end) where
  pub text_less : (from to : ℕ) → p ≡ Text from to → at < end → end - to < end - at
  text_less from to x h = let b = pair_text substituted s at end (sym is ∙ x) in omega arith

  pub number_less : (n next : ℕ) → p ≡ Number n next → at < end → end - next < end - at
  number_less n next x h = let b = pair_number substituted s at end (sym is ∙ x) in omega arith

pub ruleset shorter_laws = (text_less, number_less)

-- attributes end after the start of their value, and not past its end
abbrev SpotIn : ℕ → ℕ → Option ℕ → Type 0
SpotIn start stop (Some p) = (start ≤ p) × (p ≤ stop)
SpotIn start stop None = Unit {0}

attributes_in_lem : (n : ℕ) (s : List ℕ) (at : ℕ) {start stop : ℕ} → start ≤ at → at + n ≡ stop → SpotIn start stop (attributes_in n s at)
unfolding attributes_in
attributes_in_lem zero s at h e = tt
attributes_in_lem (suc n) s at h e =
    both (ltb (get_or s at 0) 128) (λ t. simp t (omega arith)) (λ t. simp t (attributes_in_lem n s (at + 1) (omega arith) (omega arith)))

end_in : (s : List ℕ) (tag start stop : ℕ) → start ≤ stop → SpotIn start stop (attributes_end s tag start stop)
unfolding attributes_end
end_in s tag start stop h = both (ltb tag 128) (λ t. simp t (omega arith)) (λ t. simp t (attributes_in_lem (stop - start) s start (omega arith) (omega arith)))

pub attributes_after : (s : List ℕ) (tag start stop : ℕ) → start ≤ stop → {p : ℕ} → attributes_end s tag start stop ≡ Some p → (start ≤ p) × (p ≤ stop)
attributes_after s tag start stop h e = subst (SpotIn start stop) e (end_in s tag start stop h)

spot_or_in : (start stop : ℕ) → start ≤ stop → (p : Option ℕ) → SpotIn start stop p → (start ≤ spot_or stop p) × (spot_or stop p ≤ stop)
unfolding spot_or
spot_or_in start stop h (Some p) b = b
spot_or_in start stop h None b = omega arith

pub content_in : (s : List ℕ) (tag start stop : ℕ) → start ≤ stop → (start ≤ content_at s tag start stop) × (content_at s tag start stop ≤ stop)
unfolding content_at
content_in s tag start stop h = spot_or_in start stop h (attributes_end s tag start stop) (end_in s tag start stop h)
