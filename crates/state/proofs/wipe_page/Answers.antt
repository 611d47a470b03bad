-- `state::wipe_page` meets its contract.
use Rattle.word.proofs.WordLaws.{blank_at}
use borrow.Author.Rules.{rules}
use Rattle.state.proofs.wipe_page.Goals as goal

pub returns : goal.returns
returns c = search (rules, blank_at)
