use Rattle.std.proofs.lemmas.Result.{err_from_is_err_and}
use Rattle.shifts.proofs.Answered.{in-sheet, sum-unowned, sum-beyond, sum-given, sum-refused}
use native.Mathlib.Omega.{arith}
use Rattle.shifts.proofs.week_by.Goals as goal

pub returns-then-not-own : goal.returns-then-not-own
returns-then-not-own c = search (sum-unowned, arith)

pub returns-then-node-nodes : goal.returns-then-node-nodes
returns-then-node-nodes c = search (sum-beyond, arith)

pub sum_at-requires : goal.sum_at-requires
sum_at-requires c = search (in-sheet, arith)

pub returns : goal.returns
returns c = search (sum-given, c.in_ok-sum.was, arith)

pub returns-in_err-sum : goal.returns-in_err-sum
returns-in_err-sum c =
    let p = err_from_is_err_and c.from_residual.result c.from_residual.ensures.1 in
    rw (p.1, p.2) (sum-refused _ _ _ _ _ c.if-not-own.false c.if-node-nodes.false _ c.sum_at.ensures _ c.in_err-sum.was)
