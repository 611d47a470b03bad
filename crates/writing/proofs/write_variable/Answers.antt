-- `writing::write_variable` meets its contract.
use mathlib.Core.Path.{refl}
use Rattle.writing.proofs.WriteLaws.{write_laws}
use borrow.Author.Rules.{rules}
use Rattle.writing.proofs.write_variable.Goals as goal

pub returns-then-bytes-gt255-clause-by_index : goal.returns-then-bytes-gt255-clause-by_index
returns-then-bytes-gt255-clause-by_index c = search (rules, write_laws)

pub returns-then-bytes-gt255-clause-temp_unchanged : goal.returns-then-bytes-gt255-clause-temp_unchanged
returns-then-bytes-gt255-clause-temp_unchanged c = λ e. refl

pub returns-then-bytes-gt255-clause-perm_unchanged : goal.returns-then-bytes-gt255-clause-perm_unchanged
returns-then-bytes-gt255-clause-perm_unchanged c = λ e. refl

pub returns-then-bytes-gt255-clause-temp_after : goal.returns-then-bytes-gt255-clause-temp_after
returns-then-bytes-gt255-clause-temp_after c = λ t. t

pub returns-then-bytes-gt255-clause-perm_after : goal.returns-then-bytes-gt255-clause-perm_after
returns-then-bytes-gt255-clause-perm_after c = λ t. t

pub returns-then-n-lt64-clause-by_index : goal.returns-then-n-lt64-clause-by_index
returns-then-n-lt64-clause-by_index c = search (rules, write_laws)

pub returns-then-n-lt64-clause-temp_unchanged : goal.returns-then-n-lt64-clause-temp_unchanged
returns-then-n-lt64-clause-temp_unchanged c = λ e. refl

pub returns-then-n-lt64-clause-perm_unchanged : goal.returns-then-n-lt64-clause-perm_unchanged
returns-then-n-lt64-clause-perm_unchanged c = λ e. refl

pub returns-then-n-lt64-clause-temp_after : goal.returns-then-n-lt64-clause-temp_after
returns-then-n-lt64-clause-temp_after c = λ t. t

pub returns-then-n-lt64-clause-perm_after : goal.returns-then-n-lt64-clause-perm_after
returns-then-n-lt64-clause-perm_after c = λ t. t

pub returns-then-n-lt128-clause-by_index : goal.returns-then-n-lt128-clause-by_index
returns-then-n-lt128-clause-by_index c = search (rules, write_laws)

pub returns-then-n-lt128-clause-temp_unchanged : goal.returns-then-n-lt128-clause-temp_unchanged
returns-then-n-lt128-clause-temp_unchanged c = λ e. refl

pub returns-then-n-lt128-clause-temp_after : goal.returns-then-n-lt128-clause-temp_after
returns-then-n-lt128-clause-temp_after c = λ t. t

pub returns-then-n-lt192-clause-by_index : goal.returns-then-n-lt192-clause-by_index
returns-then-n-lt192-clause-by_index c = search (rules, write_laws)

pub returns-then-n-lt192-clause-perm_unchanged : goal.returns-then-n-lt192-clause-perm_unchanged
returns-then-n-lt192-clause-perm_unchanged c = λ e. refl

pub returns-then-n-lt192-clause-perm_after : goal.returns-then-n-lt192-clause-perm_after
returns-then-n-lt192-clause-perm_after c = λ t. t

pub returns-clause-by_index : goal.returns-clause-by_index
returns-clause-by_index c = search (rules, write_laws)

pub returns-clause-temp_unchanged : goal.returns-clause-temp_unchanged
returns-clause-temp_unchanged c = λ e. refl

pub returns-clause-perm_unchanged : goal.returns-clause-perm_unchanged
returns-clause-perm_unchanged c = λ e. refl

pub returns-clause-temp_after : goal.returns-clause-temp_after
returns-clause-temp_after c = λ t. t

pub returns-clause-perm_after : goal.returns-clause-perm_after
returns-clause-perm_after c = λ t. t
