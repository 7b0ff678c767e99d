use native.Mathlib.Omega.{arith}
use Rattle.cases.proofs.Digests.{digest-start, digest-on, digest-end}
use Rattle.cases.proofs.digest.of_numbers.Goals as goal

pub loop-number-init : goal.loop-number-init
loop-number-init c = search (digest-start, arith)

pub loop-number-preserved : goal.loop-number-preserved
loop-number-preserved c = search (digest-on, arith)

pub returns : goal.returns
returns c = search (digest-end, arith)
