use native.Mathlib.Omega.{arith}
use Rattle.cases.proofs.Fills.{fill_start, fill_on, fill_end}
use Rattle.cases.proofs.wire.fill_numbers.Goals as goal

pub loop-i-init : goal.loop-i-init
loop-i-init c = search (fill_start, arith)

pub loop-i-preserved : goal.loop-i-preserved
loop-i-preserved c = search (fill_on, arith)

pub returns : goal.returns
returns c = search (fill_end, arith)
