-- Length-value pairs and substitution pairs (clauses 6.3 and 7.1.7).
use Rattle.std.specs.Prelude.{ℕ, zero, suc, ◌+◌, ◌-◌, Bool, true, false, cond, List, [], ◌∷◌, get_or, ltb, leb, Option, Some, None}
use Rattle.rules.specs.Tlv.{length_at}
use Rattle.rules.specs.declared.Pair.{Pair}
use Rattle.rules.specs.declared.Pair.TheVariants.{Text, Number, Broken}

-- 6.3: 'C0' to 'C7' says that a variable's number follows, where pairs are substitution pairs. The type that it shows is not compared (House).
unfoldable pub indicates : Bool → ℕ → Bool
indicates substituted b = cond substituted (cond (ltb b 0xC0) false (ltb b 0xC8)) false

unfoldable pub text_of : ℕ → Option (ℕ × ℕ) → Pair
text_of end (Some p) = cond (ltb (end - p.1) p.0) Broken (Text p.1 (p.1 + p.0))
text_of end None = Broken

-- the pair at a place, before an end: an indicator and a number, or a length and as many bytes
unfoldable pub pair_at : Bool → List ℕ → ℕ → ℕ → Pair
pair_at substituted s at end =
    cond (leb end at) Broken
    (cond (indicates substituted (get_or s at 0)) (cond (ltb (end - at) 2) Broken (Number (get_or s (at + 1) 0) (at + 2)))
    (text_of end (length_at s at end)))

-- The pairs of a value: bytes as they stand, and numbers. They fill the value, or are cut where a pair is in no valid form.
pub data Pieces : Type 0 where
  full : Pieces
  cut : Pieces
  text : (from to : ℕ) → Pieces → Pieces
  variable : ℕ → Pieces → Pieces

unfoldable pub piece : (ℕ → Pieces) → Pair → Pieces
piece rest (Text from to) = text from to (rest to)
piece rest (Number n next) = variable n (rest next)
piece rest Broken = cut

unfoldable pub pieces_up_to : ℕ → Bool → List ℕ → ℕ → ℕ → Pieces
pieces_up_to zero substituted s at end = full
pieces_up_to (suc n) substituted s at end = cond (leb end at) full (piece (λ p. pieces_up_to n substituted s p end) (pair_at substituted s at end))

unfoldable pub pieces : Bool → List ℕ → ℕ → ℕ → Pieces
pieces substituted s at end = pieces_up_to (end - at) substituted s at end

unfoldable pub filled : Pieces → Bool
filled full = true
filled cut = false
filled (text from to rest) = filled rest
filled (variable n rest) = filled rest

-- 7.4: a Variable Identifier List names its variables one after another
unfoldable pub named : List ℕ → Pieces
named [] = full
named (n ∷ ns) = variable n (named ns)
