-- What is wrong with the result variables of an Execute USAT Command (16 and 19), by the page alone.
use Rattle.std.specs.Prelude.{ℕ, cond, List}
use Rattle.rules.specs.Page.{service}
use Rattle.rules.specs.Store.{area, writing_in, worse}
use Rattle.rules.specs.Command.{Execute, has_general, has_output, general_number, output_number}
use Rattle.rules.specs.declared.Complaint.{Complaint}
use Rattle.rules.specs.declared.Complaint.TheVariants.{Nothing}

unfoldable pub general_told : List ℕ → Execute → Complaint
general_told s x = cond (has_general x) (writing_in (service s) (area (general_number s x))) Nothing

unfoldable pub output_told : List ℕ → Execute → Complaint
output_told s x = cond (has_output x) (writing_in (service s) (area (output_number s x))) Nothing

unfoldable pub result_told : List ℕ → Execute → Complaint
result_told s x = worse (general_told s x) (output_told s x)
