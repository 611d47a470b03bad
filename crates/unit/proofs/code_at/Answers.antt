-- `unit::code_at` meets its contract.
use borrow.Author.Rules.{rules}
use Rattle.unit.proofs.Units.{unit_laws}
use Rattle.unit.proofs.code_at.Goals as goal

pub returns : goal.returns
returns c = search (rules, unit_laws, c.in_ok-tlv.was)
