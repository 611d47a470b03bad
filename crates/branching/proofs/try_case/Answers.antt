-- `branching::try_case` meets its contract.
use Rattle.tlv.proofs.Bounds.{next_laws}
use Rattle.branching.proofs.ChooseLaws.{tried_laws}
use borrow.Author.Rules.{rules}
use Rattle.branching.proofs.try_case.Goals as goal

pub value_complaint-requires : goal.value_complaint-requires
value_complaint-requires c = search (rules, next_laws, tried_laws)

pub value_is-requires : goal.value_is-requires
value_is-requires c = search (rules, next_laws, tried_laws)
