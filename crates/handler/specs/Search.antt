-- The search for a modifier, as it goes: by lists, and by the number of a modifier in its list.
use Rattle.std.specs.Prelude.{ℕ, Bool, true, false, cond, List, eqb, Option, Some, None}
use Rattle.rules.specs.Page.{content_at, page_head, unit_at}
use Rattle.rules.specs.Handler.{modifier_at}
use Rattle.rules.specs.declared.Action.{Action}
use Rattle.rules.specs.declared.Action.TheVariants.{Pass, Next, Quit, Back, Retry, Go}
use Rattle.rules.specs.declared.Span.{Span}
use Rattle.page.specs.Span.{span_of}
use Rattle.rules.specs.declared.Tlv.{Tlv}

-- what a modifier does for a general result
unfoldable pub action_of : List ℕ → ℕ → Option Tlv → Action
action_of s g (Some h) = modifier_at s g (content_at s h.tag h.start h.stop) h.stop
action_of s g None = Pass

-- an action leaves nothing to those behind it
unfoldable pub decides : Action → Bool
decides Pass = false
decides Next = true
decides Quit = true
decides Back = true
decides Retry = true
decides (Go start stop) = true

-- where the modifiers stand: list 0 is the unit's, list 1 the page's
unfoldable pub list_of : List ℕ → ℕ → ℕ → Span
list_of s k list = cond (eqb list 0) (span_of s (unit_at s k)) (span_of s (page_head s))
