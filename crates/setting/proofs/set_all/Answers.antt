-- `setting::set_all` meets its contract. The invariant: the pairs from here on, with what the arrays show now, come to what all pairs come to.
use mathlib.Core.Path.{refl, ap}
use Rattle.setting.proofs.RowLaws.{pair_laws}
use Rattle.setting.proofs.SetLaws.{all_laws, still_laws}
use Rattle.std.specs.Prelude.{is_ok}
use borrow.Author.Rules.{rules}
use Rattle.setting.proofs.set_all.Goals as goal

pub loop-at-init : goal.loop-at-init
loop-at-init c = (search rules, refl, search still_laws, search still_laws)

pub overflow_sub-stop : goal.overflow_sub-stop
overflow_sub-stop c = search (rules, pair_laws)

pub overflow_add-at : goal.overflow_add-at
overflow_add-at c = search (rules, pair_laws)

pub head_at-requires : goal.head_at-requires
head_at-requires c = search (rules, pair_laws)

pub enum_told-1 : goal.enum_told-1
enum_told-1 c = search (rules, pair_laws)

pub returns-in_default-clause-perm_value : goal.returns-in_default-clause-perm_value
returns-in_default-clause-perm_value c = search (rules, all_laws)

pub returns-in_default-clause-temp_after : goal.returns-in_default-clause-temp_after
returns-in_default-clause-temp_after c = search (rules, still_laws)

pub returns-in_default-clause-perm_after : goal.returns-in_default-clause-perm_after
returns-in_default-clause-perm_after c = search (rules, still_laws)

pub bounds-page-at : goal.bounds-page-at
bounds-page-at c = search (rules, pair_laws)

pub set_one-requires : goal.set_one-requires
set_one-requires c = search (rules, pair_laws)

pub loop-at-smaller : goal.loop-at-smaller
loop-at-smaller c = search (rules, pair_laws)

pub loop-at-preserved : goal.loop-at-preserved
loop-at-preserved c = (search (rules, pair_laws), search (rules, all_laws, ap is_ok c.in_ok-set_one.was), search (rules, still_laws), search (rules, still_laws))

pub returns-in_err-set_one-clause-perm_value : goal.returns-in_err-set_one-clause-perm_value
returns-in_err-set_one-clause-perm_value c = search (rules, all_laws, ap is_ok c.in_err-set_one.was)

pub returns-in_err-set_one-clause-temp_after : goal.returns-in_err-set_one-clause-temp_after
returns-in_err-set_one-clause-temp_after c = search (rules, still_laws)

pub returns-in_err-set_one-clause-perm_after : goal.returns-in_err-set_one-clause-perm_after
returns-in_err-set_one-clause-perm_after c = search (rules, still_laws)

pub returns-clause-perm_value : goal.returns-clause-perm_value
returns-clause-perm_value c = search (rules, all_laws)

pub returns-clause-temp_after : goal.returns-clause-temp_after
returns-clause-temp_after c = search (rules, still_laws)

pub returns-clause-perm_after : goal.returns-clause-perm_after
returns-clause-perm_after c = search (rules, still_laws)
