-- An answer in one number.
use Rattle.std.specs.Prelude.{ℕ, ◌+◌, ◌*◌, Result, Ok, Err}
use Rattle.rules.specs.declared.Rejection.{Rejection}

-- 0 where the page is accepted, else the number in the lowest byte and the offset above it
unfoldable pub packed : Result (Unit {0}) Rejection → ℕ
packed (Ok u) = 0
packed (Err e) = e.class + 256 * e.place
