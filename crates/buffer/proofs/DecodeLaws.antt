-- A buffer read field by field, in the shape of what the proofs need.
-- Assumes nothing.
use Prim.Native.Nat.{ℕ, ◌+◌}
use mathlib.Core.List.{List}
use mathlib.Core.Path.{◌≡◌, ◌∙◌, ap}
use lib.ListN.{length, length-replicate}
use Rattle.pour.specs.Pour.{blank}
use Rattle.rules.specs.Bytes.{part}
use Rattle.buffer.specs.Buffer.{pair_at, decoded}

-- an array of n bytes takes n of the buffer
fetched : (s x : List ℕ) (at n : ℕ) → x ≡ part s at (at + length (blank n)) → x ≡ part s at (at + n)
fetched s x at n e = e ∙ ap (λ (k : ℕ). part s at (at + k)) (length-replicate n 0)

module _ (s : List ℕ) {page environment temporary permanent trail guard hand wanted : List ℕ} {len unit place : ℕ} where
  pub decoded_is :
      page ≡ part s 0 (0 + length (blank 4096))
      → len ≡ pair_at s 4096
      → environment ≡ part s 4098 (4098 + length (blank 16640))
      → temporary ≡ part s 20738 (20738 + length (blank 16640))
      → permanent ≡ part s 37378 (37378 + length (blank 17920))
      → trail ≡ part s 55298 (55298 + length (blank 1058))
      → guard ≡ part s 56356 (56356 + length (blank 18))
      → hand ≡ part s 56374 (56374 + length (blank 257))
      → wanted ≡ part s 56631 (56631 + length (blank 66))
      → unit ≡ pair_at s 56697
      → place ≡ pair_at s 56699
      → record {
        page = page;
        len = len;
        environment = environment;
        temporary = temporary;
        permanent = permanent;
        trail = trail;
        guard = guard;
        hand = hand;
        wanted = wanted;
        unit = unit;
        place = place;
      }
      ≡ decoded s
  unfolding decoded
  decoded_is p l e t q h g i w u r =
      let p = fetched s page 0 4096 p in
      let e = fetched s environment 4098 16640 e in
      let t = fetched s temporary 20738 16640 t in
      let q = fetched s permanent 37378 17920 q in
      let h = fetched s trail 55298 1058 h in
      let g = fetched s guard 56356 18 g in
      let i = fetched s hand 56374 257 i in
      let w = fetched s wanted 56631 66 w in
      rw (p, l, e, t, q, h, g, i, w, u, r)
