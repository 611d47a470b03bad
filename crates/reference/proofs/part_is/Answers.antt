-- `reference::part_is` meets its contract.
use borrow.Author.Rules.{rules}
use Rattle.reference.proofs.Targets.{holds_laws}
use Rattle.reference.proofs.part_is.Goals as goal

pub slice_bounds-same_bytes-end : goal.slice_bounds-same_bytes-end
slice_bounds-same_bytes-end c = search (rules, holds_laws)
