-- A step of the loops of `unhex` and `hex`.
-- Assumes nothing.
use Rattle.std.proofs.Common.{ℕ, suc, ◌+◌, ◌-◌, ◌*◌, ◌<◌, ◌/◌, ◌≡◌, List, ◌++◌, length, get_or, drop, set, arith, sym, ◌∙◌, ap}
use Rattle.std.proofs.lemmas.Grind.{common_steps}
use Rattle.std.proofs.lemmas.List.{length-set, length-append, length-drop, drop_at, drop-drop}
use Rattle.lines.specs.Hex.{byte_of, unhexed_from, unhexed, glyph, hexed_from}

-- A pair is what stands at its place in the word.
module _ (word rest pair more : List ℕ) (i : ℕ) (at : rest ≡ drop (2 * i) word) (cut : rest ≡ pair ++ more) (two : length pair ≡ 2) where
  pair_more : more ≡ drop (2 * (i + 1)) word
  pair_more =
      let d : 2 * (i + 1) ≡ 2 * i + 2 = omega arith in
      let e : drop 2 (pair ++ more) ≡ more = drop_at pair more 2 two in
      sym e ∙ ap (drop 2) (sym cut ∙ at) ∙ drop-drop 2 (2 * i) word ∙ ap (λ (n : ℕ). drop n word) (sym d)

  pair_byte : byte_of (get_or pair 0 0) (get_or pair 1 0) ≡ byte_of (get_or word (2 * i) 0) (get_or word (2 * i + 1) 0)
  pair_byte =
      let high : get_or pair 0 0 ≡ get_or word (2 * i) 0 = grind (arith, common_steps) in
      let low : get_or pair 1 0 ≡ get_or word (2 * i + 1) 0 = grind (arith, common_steps) in
      rw (high, low)

  pair_room : i < length word / 2
  pair_room =
      let e : length (drop (2 * i) word) ≡ length word - 2 * i = length-drop (2 * i) word in
      let f : length (pair ++ more) ≡ length pair + length more = length-append pair more in
      let g : length (drop (2 * i) word) ≡ length (pair ++ more) = ap length (sym at ∙ cut) in
      omega arith

unhexed_more : (word out : List ℕ) (n i b : ℕ) → i < n → b ≡ byte_of (get_or word (2 * i) 0) (get_or word (2 * i + 1) 0)
    → unhexed_from (n - (i + 1)) (i + 1) word (set out i b) ≡ unhexed_from (n - i) i word out
unhexed_more word out n i b g e =
    let k : n - i ≡ suc (n - (i + 1)) = omega arith in
    sym (ap (λ (m : ℕ). unhexed_from m i word out) k ∙ rw e)

module _ (word out out₀ rest pair more : List ℕ) (i j k b size left : ℕ) where
  -- the loop's invariant
  pub unhex_step : (size ≡ 2) × (rest ≡ drop (2 * i) word) × (length out ≡ length out₀) × (unhexed_from (length word / 2 - i) i word out ≡ unhexed word out₀)
      → left ≡ size → rest ≡ pair ++ more → length pair ≡ size → j ≡ i → k ≡ i + 1 → b ≡ byte_of (get_or pair 0 0) (get_or pair 1 0)
      → (left ≡ 2) × (more ≡ drop (2 * k) word) × (length (set out j b) ≡ length out₀) × (unhexed_from (length word / 2 - k) k word (set out j b) ≡ unhexed word out₀)
  unhex_step v l cut p ej ek e =
      let two : length pair ≡ 2 = p ∙ v.0 in
      rw (ej, ek) (
        l ∙ v.0,
        pair_more word rest pair more i v.1 cut two,
        length-set out i b ∙ v.2,
        unhexed_more word out (length word / 2) i b (pair_room word rest pair more i v.1 cut two) (e ∙ pair_byte word rest pair more i v.1 cut two) ∙ v.3,
      )

pub hexed_more : (bytes out : List ℕ) (n i h l : ℕ) → i < n → h ≡ glyph (get_or bytes i 0 / 16) → l ≡ glyph (get_or bytes i 0)
    → hexed_from (n - (i + 1)) (i + 1) bytes (set (set out (2 * i) h) (2 * i + 1) l) ≡ hexed_from (n - i) i bytes out
hexed_more bytes out n i h l g e f =
    let k : n - i ≡ suc (n - (i + 1)) = omega arith in
    sym (ap (λ (m : ℕ). hexed_from m i bytes out) k ∙ rw (e, f))

pub ruleset hex_laws = (hexed_more, length-set)
