use Rattle.hours.proofs.Counting.{first-none, second_none, third-none, two-fit, three-fit, summed}
use Rattle.hours.proofs.quarters_of.Goals as goal

pub returns-in_err-a : goal.returns-in_err-a
returns-in_err-a c = rw c.from_residual.ensures (first-none _ _ c.count.ensures c.in_err-a.was)

pub returns-in_err-b : goal.returns-in_err-b
returns-in_err-b c = rw c.from_residual-in_err-b.ensures (second_none _ _ c.count.ensures _ c.in_ok-a.was _ c.count-2.ensures c.in_err-b.was)

pub returns-in_err-c : goal.returns-in_err-c
returns-in_err-c c = rw c.from_residual-in_err-c.ensures (third-none _ _ c.count.ensures _ c.in_ok-a.was _ c.count-2.ensures _ c.in_ok-b.was _ c.count-3.ensures c.in_err-c.was)

pub overflow_add-result : goal.overflow_add-result
overflow_add-result c = search (two-fit, c.in_ok-a.was, c.in_ok-b.was, c.in_ok-c.was)

pub overflow_add-result-2 : goal.overflow_add-result-2
overflow_add-result-2 c = search (three-fit, c.in_ok-a.was, c.in_ok-b.was, c.in_ok-c.was)

pub returns : goal.returns
returns c = search (summed, c.in_ok-a.was, c.in_ok-b.was, c.in_ok-c.was)
