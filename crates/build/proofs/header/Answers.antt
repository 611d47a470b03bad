-- `build::header` meets its contract.
use Rattle.build.proofs.BuildLaws.{header_laws}
use borrow.Author.Rules.{rules}
use Rattle.build.proofs.header.Goals as goal

pub append-requires : goal.append-requires
append-requires c = search (rules, header_laws)

pub returns : goal.returns
returns c = search (rules, header_laws)
