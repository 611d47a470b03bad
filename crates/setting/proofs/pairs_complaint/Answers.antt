-- `setting::pairs_complaint` meets its contract. The invariant: the worst complaint so far, and those of the pairs from here on with the
-- numbers met so far as known, come to that of all pairs.
use Rattle.setting.proofs.RowLaws.{pair_laws}
use Rattle.setting.proofs.ComplaintLaws.{setting_laws, setting_pair}
use borrow.Author.Rules.{rules}
use Rattle.setting.proofs.pairs_complaint.Goals as goal

pub loop-at-init : goal.loop-at-init
loop-at-init c = (search rules, search rules, search rules, search setting_laws)

pub overflow_sub-stop : goal.overflow_sub-stop
overflow_sub-stop c = search (rules, pair_laws)

pub overflow_add-at : goal.overflow_add-at
overflow_add-at c = search (rules, pair_laws)

pub head_at-requires : goal.head_at-requires
head_at-requires c = search (rules, pair_laws)

pub enum_told-1 : goal.enum_told-1
enum_told-1 c = search (rules, pair_laws)

pub returns-in_default : goal.returns-in_default
returns-in_default c = search (rules, setting_laws)

pub bounds-view-at : goal.bounds-view-at
bounds-view-at c = search (rules, pair_laws)

pub pair_complaint-worst-requires : goal.pair_complaint-worst-requires
pair_complaint-worst-requires c = search (rules, pair_laws)

pub bounds-met-count : goal.bounds-met-count
bounds-met-count c = search (rules, pair_laws)

pub overflow_add-count : goal.overflow_add-count
overflow_add-count c = search (rules, pair_laws)

pub loop-at-smaller : goal.loop-at-smaller
loop-at-smaller c = search (rules, pair_laws)

pub loop-at-preserved : goal.loop-at-preserved
loop-at-preserved c = (search rules, search (rules, pair_laws), search (rules, pair_laws), setting_pair _ _ _ _ _ _ _ _ _ _ c.loop-at.invariant.3 (search rules) _ c.head_at.ensures _ (search rules) (search rules) _ c.pair_complaint-worst.ensures)

pub returns : goal.returns
returns c = search (rules, setting_laws)
