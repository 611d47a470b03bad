-- `command::send_one` meets its contract.
use Rattle.command.proofs.SentLaws.{send_laws, value_room}
use borrow.Author.Rules.{rules}
use Rattle.command.proofs.send_one.Goals as goal

pub header-next-requires : goal.header-next-requires
header-next-requires c = search (rules, send_laws)

pub join_from-requires : goal.join_from-requires
join_from-requires c = (search rules, search (rules, value_room))

pub returns-then-tlv-eq0 : goal.returns-then-tlv-eq0
returns-then-tlv-eq0 c = search (rules, send_laws)

pub append-requires : goal.append-requires
append-requires c = search (rules, send_laws)

pub returns : goal.returns
returns c = search (rules, send_laws)
