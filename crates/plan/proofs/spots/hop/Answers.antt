use Rattle.plan.proofs.Hopping.{hop-start, hop-past, hop-inside, hop-on, hop-end}
use native.Mathlib.Omega.{arith}
use Rattle.plan.proofs.spots.hop.Goals as goal

pub loop-init : goal.loop-init
loop-init c = search (hop-start, arith)

pub returns-then-j-end : goal.returns-then-j-end
returns-then-j-end c = search (hop-past, arith)

pub count_of-j-requires : goal.count_of-j-requires
count_of-j-requires c = search (hop-inside, arith)

pub loop-preserved : goal.loop-preserved
loop-preserved c = search (hop-on, arith)

pub returns : goal.returns
returns c = search (hop-end, arith)
