-- A state as the bytes of a lent buffer: its fields in turn, a number as two bytes.
use Rattle.std.specs.Prelude.{ℕ, ◌+◌, ◌*◌, List, ◌++◌, get_or}
use Rattle.rules.specs.Bytes.{part, hex}
use Rattle.state.specs.declared.State.{State}

-- 4096 + 2 + 16640 + 16640 + 17920 + 1058 + 18 + 257 + 66 + 2 + 2
abbrev pub size : ℕ
size = 56701

-- two bytes as a number, the high byte first
abbrev pub pair_at : List ℕ → ℕ → ℕ
pair_at s at = get_or s at 0 * 256 + get_or s (at + 1) 0

unfoldable pub decoded : List ℕ → State
decoded s =
    record {
      page = part s 0 4096;
      len = pair_at s 4096;
      environment = part s 4098 20738;
      temporary = part s 20738 37378;
      permanent = part s 37378 55298;
      trail = part s 55298 56356;
      guard = part s 56356 56374;
      hand = part s 56374 56631;
      wanted = part s 56631 56697;
      unit = pair_at s 56697;
      place = pair_at s 56699;
    }

-- of a number the sixteen low bits
unfoldable pub encoded : State → List ℕ
encoded m =
    m.page
    ++ (hex 2 m.len
    ++ (m.environment
    ++ (m.temporary
    ++ (m.permanent
    ++ (m.trail ++ (m.guard ++ (m.hand ++ (m.wanted ++ (hex 2 m.unit ++ hex 2 m.place)))))))))
