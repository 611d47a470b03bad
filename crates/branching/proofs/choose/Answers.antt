-- `branching::choose` meets its contract. The invariant: the cases from here on come to what all come to.
use Rattle.tlv.proofs.Bounds.{next_laws}
use Rattle.branching.proofs.ChooseLaws.{choose_laws}
use borrow.Author.Rules.{rules}
use Rattle.branching.proofs.choose.Goals as goal

pub head_at-requires-then-tlv-eq18 : goal.head_at-requires-then-tlv-eq18
head_at-requires-then-tlv-eq18 c = search (rules, next_laws, choose_laws)

pub returns-then-tlv-eq18 : goal.returns-then-tlv-eq18
returns-then-tlv-eq18 c = search (rules, next_laws, choose_laws)

pub try_case-requires : goal.try_case-requires
try_case-requires c = search (rules, next_laws, choose_laws)
