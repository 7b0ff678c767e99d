use Rattle.shifts.proofs.Inside.{known-readable}
use Rattle.shifts.proofs.Adding.{sum-string, stop-fits, adding-starts, line-in, sum-bad, count_fits, quarters-fit, adding-goes, adding-ends, adding-last}
use native.Mathlib.Omega.{arith}
use Rattle.shifts.proofs.lines.sum_at.Goals as goal

pub row_of-row-requires : goal.row_of-row-requires
row_of-row-requires c = search (known-readable, arith)

pub returns-then-row-ne2 : goal.returns-then-row-ne2
returns-then-row-ne2 c = search (sum-string, arith)

pub overflow_add-stop : goal.overflow_add-stop
overflow_add-stop c = search (stop-fits, arith)

pub loop-at-init : goal.loop-at-init
loop-at-init c = search (adding-starts, arith)

pub count_at-requires : goal.count_at-requires
count_at-requires c = search (line-in, arith)

pub overflow_add-lines : goal.overflow_add-lines
overflow_add-lines c = search (count_fits, arith)

pub overflow_add-quarters : goal.overflow_add-quarters
overflow_add-quarters c = search (quarters-fit, arith)

pub loop-at-preserved : goal.loop-at-preserved
loop-at-preserved c = search (adding-goes, arith)

pub returns-in_default : goal.returns-in_default
returns-in_default c = search (sum-bad, arith)

pub returns-else-row-ne2 : goal.returns-else-row-ne2
returns-else-row-ne2 c = search (adding-ends, arith)

pub returns-in-Some : goal.returns-in-Some
returns-in-Some c = adding-last _ _ _ _ _ _ _ _ c.loop-at.invariant c.loop-at-test.true _ c.count_at.ensures _ c.in-Some.is (omega arith)
