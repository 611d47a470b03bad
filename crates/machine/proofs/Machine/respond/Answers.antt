-- `machine::respond` meets its contract.
use Rattle.machine.proofs.CallLaws.{respond_none, respond_unasked, respond_malformed, respond_done_lem, respond_short}
use Rattle.machine.proofs.Parts.{served_laws}
use borrow.Author.Rules.{rules}
use Rattle.machine.proofs.Machine.respond.Goals as goal

pub returns-then-out-lt255 : goal.returns-then-out-lt255
returns-then-out-lt255 c = search (rules, respond_none, respond_unasked, respond_malformed, respond_done_lem, respond_short, served_laws)

pub returns-then-not-is_waiting : goal.returns-then-not-is_waiting
returns-then-not-is_waiting c = search (rules, respond_none, respond_unasked, respond_malformed, respond_done_lem, respond_short, served_laws)

pub returns-in_default : goal.returns-in_default
returns-in_default c = search (rules, respond_none, respond_unasked, respond_malformed, respond_done_lem, respond_short, served_laws)

pub returns : goal.returns
returns c = search (rules, respond_none, respond_unasked, respond_malformed, respond_done_lem, respond_short, served_laws)
