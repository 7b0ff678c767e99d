use native.Mathlib.Omega.{arith}
use Rattle.lookup.proofs.Agreeing.{agree-in, agree_differ, agree_on, agree-end}
use Rattle.lookup.proofs.parts.rest_equal.Goals as goal

pub bounds-b-i : goal.bounds-b-i
bounds-b-i c = search (agree-in, arith)

pub returns-then-a-i : goal.returns-then-a-i
returns-then-a-i c = search (agree_differ, arith)

pub loop-i-preserved : goal.loop-i-preserved
loop-i-preserved c = search (agree_on, arith)

pub returns : goal.returns
returns c = search (agree-end, arith)
