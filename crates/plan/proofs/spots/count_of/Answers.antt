use Rattle.plan.proofs.Hopping.{count-string, count-list}
use native.Mathlib.Omega.{arith}
use Rattle.plan.proofs.spots.count_of.Goals as goal

pub returns-then-third-lt-LIST : goal.returns-then-third-lt-LIST
returns-then-third-lt-LIST c = search (count-string, arith)

pub returns : goal.returns
returns c = search (count-list, arith)
