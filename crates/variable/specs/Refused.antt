-- What a complaint comes to: 16, 19 and 17 go before what else may be refused.
use Rattle.std.specs.Prelude.{Option, Some, None}
use Rattle.rules.specs.declared.Complaint.{Complaint}
use Rattle.rules.specs.declared.Complaint.TheVariants.{Nothing, Undefined, Secured, Misused}
use Rattle.rules.specs.declared.Refusal.{Refusal}
use Rattle.rules.specs.declared.Refusal.TheVariants.{Syntax, Variable, Security}

unfoldable pub refusal_of : Complaint → Option Refusal
refusal_of Nothing = None
refusal_of Undefined = Some Variable
refusal_of Secured = Some Security
refusal_of Misused = Some Syntax
