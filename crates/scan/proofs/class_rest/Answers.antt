use native.Mathlib.Omega.{arith}
use Rattle.scan.proofs.Reaching.{reach-none, reach-more, reach-stop, reach-end}
use Rattle.scan.proofs.class_rest.Goals as goal

pub loop-i-init : goal.loop-i-init
loop-i-init c = search (reach-none, arith)

pub returns-then-class_of-low : goal.returns-then-class_of-low
returns-then-class_of-low c = search (reach-stop, arith)

pub loop-i-preserved : goal.loop-i-preserved
loop-i-preserved c = search (reach-more, arith)

pub returns : goal.returns
returns c = search (reach-end, arith)
