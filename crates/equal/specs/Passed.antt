-- Where bytes go on after others that they begin with, from a place on.
use Rattle.std.specs.Prelude.{ℕ, ◌+◌, cond, List, length, take, drop, Option, Some, None}
use Rattle.rules.specs.Bytes.{same}

unfoldable pub passed : List ℕ → ℕ → List ℕ → Option ℕ
passed bytes at front = cond (same front (take (length front) (drop at bytes))) (Some (at + length front)) None
