use Rattle.spool.proofs.Putting.{one-group, two-groups, three-groups, second-within, third-within, second_group, third_group}
use native.Mathlib.Omega.{arith}
use borrow.Author.Rules.{rules}
use Rattle.spool.proofs.whole.put_groups.Goals as goal

pub returns-then-count-eq1 : goal.returns-then-count-eq1
returns-then-count-eq1 c = search (one-group, arith)

pub group_at-requires : goal.group_at-requires
group_at-requires c = (search rules, search (second_group, arith))

pub bounds-area-at : goal.bounds-area-at
bounds-area-at c = search (second-within, arith)

pub returns-then-count-eq2 : goal.returns-then-count-eq2
returns-then-count-eq2 c = search (two-groups, arith)

pub group_at-requires-2 : goal.group_at-requires-2
group_at-requires-2 c = (search rules, search (third_group, arith))

pub bounds-area-at-2 : goal.bounds-area-at-2
bounds-area-at-2 c = search (third-within, arith)

pub returns : goal.returns
returns c = search (three-groups, arith)
