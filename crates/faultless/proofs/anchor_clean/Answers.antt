-- `anchor_clean` answers true only where the anchor is not bad.
use borrow.Author.Rules.{rules}
use Rattle.tlv.proofs.Bounds.{next_laws}
use Rattle.faultless.proofs.PageLaws.{fresh_laws}
use Rattle.faultless.proofs.anchor_clean.Goals as goal

pub slice_bounds-mark-end : goal.slice_bounds-mark-end
slice_bounds-mark-end c = search (rules, next_laws, fresh_laws)

pub bad_anchor-requires-clause-stop_in_bounds : goal.bad_anchor-requires-clause-stop_in_bounds
bad_anchor-requires-clause-stop_in_bounds c = search (rules, next_laws, fresh_laws)
