-- The shared answers, put together from their numbers.
use Rattle.std.specs.Prelude.{ℕ, Option, Some, Result, Err}
use Rattle.rules.specs.declared.Tlv.{Tlv}
use Rattle.rules.specs.declared.Span.{Span}
use Rattle.rules.specs.declared.Rejection.{Rejection}
use Rattle.rules.specs.declared.Refusal.{Refusal}
use Rattle.rules.specs.declared.LoadError.{LoadError}
use Rattle.rules.specs.declared.LoadError.TheVariants.{Faulty, Unloaded}
use Rattle.rules.specs.declared.Reply.{Reply}

abbrev pub some_tlv : ℕ → ℕ → ℕ → Option Tlv
some_tlv tag start stop = Some (record { tag = tag; start = start; stop = stop })

abbrev pub some_span : ℕ → ℕ → Option Span
some_span from end = Some (record { from = from; end = end })

abbrev pub reject : ℕ → ℕ → Result (Unit {0}) Rejection
reject class place = Err (record { class = class; place = place })

abbrev pub some_reply : ℕ → Option Tlv → Option Reply
some_reply general after = Some (record { general = general; after = after })

abbrev pub faulty_at : ℕ → ℕ → Result (Unit {0}) LoadError
faulty_at class place = Err (Faulty (record { class = class; place = place }))

abbrev pub unloaded : Refusal → Result (Unit {0}) LoadError
unloaded why = Err (Unloaded why)
