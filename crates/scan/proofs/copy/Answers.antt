use Rattle.scan.proofs.Copies.{copy-none, copy-on, copy-end}
use native.Mathlib.Omega.{arith}
use Rattle.scan.proofs.copy.Goals as goal

pub loop-k-init : goal.loop-k-init
loop-k-init c = search (copy-none, arith)

pub loop-k-preserved : goal.loop-k-preserved
loop-k-preserved c = search (copy-on, arith)

pub returns : goal.returns
returns c = search (copy-end, arith)
