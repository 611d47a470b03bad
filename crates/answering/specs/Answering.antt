-- What decides how a response goes on.
use Rattle.std.specs.Prelude.{ℕ, Bool, true, false, List}
use Rattle.rules.specs.Bytes.{part}
use Rattle.rules.specs.Reference.{target}
use Rattle.rules.specs.declared.Action.{Action}
use Rattle.rules.specs.declared.Action.TheVariants.{Pass, Next, Quit, Back, Retry, Go}
use Rattle.rules.specs.declared.Target.{Target}
use Rattle.rules.specs.declared.Target.TheVariants.{Unit, Lacking, Other}

unfoldable pub is_retry : Action → Bool
is_retry Pass = false
is_retry Next = false
is_retry Quit = false
is_retry Back = false
is_retry Retry = true
is_retry (Go start stop) = false

unfoldable pub is_lacking : Target → Bool
is_lacking (Unit k) = false
is_lacking Lacking = true
is_lacking Other = false

-- 17: a branch to an anchor of the page's own that no unit holds
unfoldable pub lacks_in : List ℕ → Action → Bool
lacks_in s Pass = false
lacks_in s Next = false
lacks_in s Quit = false
lacks_in s Back = false
lacks_in s Retry = false
lacks_in s (Go start stop) = is_lacking (target s (part s start stop))
