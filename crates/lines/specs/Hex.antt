-- Hex digits in a word, the bytes that they say, and bytes as hex digits.
use Rattle.std.specs.Prelude.{ℕ, zero, suc, ◌+◌, ◌-◌, ◌*◌, ◌/◌, ◌%◌, Bool, false, cond, List, [], ◌∷◌, length, get_or, set, ltb, Option, Some, None, is_some, unwrap_or, option_and_then, option_map, ◌&&◌, ◌==◌}
use Rattle.std.specs.List.{list_all}

-- '0' to '9', 'A' to 'F', 'a' to 'f'
abbrev pub digit_of : ℕ → Option ℕ
digit_of b =
    cond (ltb b 48) None
    (cond (ltb b 58) (Some (b - 48))
    (cond (ltb b 65) None
    (cond (ltb b 71) (Some (b - 55))
    (cond (ltb b 97) None
    (cond (ltb b 103) (Some (b - 87)) None)))))

-- pairs of digits
abbrev pub is_hex : List ℕ → Bool
is_hex word = (length word % 2 == 0) && list_all (λ b. is_some (digit_of b)) word

-- bytes as the protocol writes them: '-' for none
abbrev pub is_bytes : List ℕ → Bool
is_bytes [] = false
is_bytes (b ∷ []) = b == 45
is_bytes word = is_hex word

-- the byte that two digits say; what is no digit counts as 0
abbrev pub byte_of : ℕ → ℕ → ℕ
byte_of high low = unwrap_or (digit_of high) 0 * 16 + unwrap_or (digit_of low) 0

-- the k bytes from the i-th on
abbrev pub unhexed_from : ℕ → ℕ → List ℕ → List ℕ → List ℕ
unhexed_from zero i word out = out
unhexed_from (suc k) i word out =
    unhexed_from k (i + 1) word (set out i (byte_of (get_or word (2 * i) 0) (get_or word (2 * i + 1) 0)))

abbrev pub unhexed : List ℕ → List ℕ → List ℕ
unhexed word out = unhexed_from (length word / 2) 0 word out

-- the number that a word of two digits says
abbrev pub number_of : List ℕ → Option ℕ
number_of (high ∷ low ∷ []) = option_and_then (λ h. option_map (λ l. h * 16 + l) (digit_of low)) (digit_of high)
number_of word = None

-- the character of a number's last digit, in lower case
abbrev pub glyph : ℕ → ℕ
glyph n = cond (ltb (n % 16) 10) (48 + n % 16) (87 + n % 16)

-- the digits of k bytes from the i-th on
abbrev pub hexed_from : ℕ → ℕ → List ℕ → List ℕ → List ℕ
hexed_from zero i bytes out = out
hexed_from (suc k) i bytes out =
    hexed_from k (i + 1) bytes (set (set out (2 * i) (glyph (get_or bytes i 0 / 16))) (2 * i + 1) (glyph (get_or bytes i 0)))

abbrev pub hexed : List ℕ → List ℕ → List ℕ
hexed bytes out = hexed_from (length bytes) 0 bytes out
