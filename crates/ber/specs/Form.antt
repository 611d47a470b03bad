-- A length in the shortest form, in four bytes.
use Rattle.std.specs.Prelude.{ℕ, length}
use Rattle.pour.specs.Pour.{padded}
use Rattle.rules.specs.Value.{shortest}
use Rattle.ber.specs.declared.Form.{Form}

unfoldable pub form_of : ℕ → Form
form_of n = record { bytes = padded 4 (shortest n); length = length (shortest n) }
