-- `usat_judge` meets its contract.
use Rattle.cabi.proofs.PackLaws.{pack_laws}
use borrow.Author.Rules.{rules}
use Rattle.cabi.proofs.usat_judge.Goals as goal

pub pack-requires : goal.pack-requires
pack-requires c = search (rules, pack_laws)

pub returns-in-Ok : goal.returns-in-Ok
returns-in-Ok c = search (rules, pack_laws)

pub returns-in-Err : goal.returns-in-Err
returns-in-Err c = search (rules, pack_laws)
