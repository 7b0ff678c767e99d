use Rattle.spool.proofs.Scans.{scan-none, scan-zero, scan-less, scan-next, scan-damaged, scan-end}
use native.Mathlib.Omega.{arith}
use Rattle.spool.proofs.go_through.Goals as goal

pub loop-at-init : goal.loop-at-init
loop-at-init c = search (scan-none, arith)

pub returns-then-area-at-eq0 : goal.returns-then-area-at-eq0
returns-then-area-at-eq0 c = search (scan-zero, arith)

pub loop-at-smaller : goal.loop-at-smaller
loop-at-smaller c = search (scan-less, arith)

pub loop-at-preserved : goal.loop-at-preserved
loop-at-preserved c = search (scan-next, arith)

pub returns-in_default : goal.returns-in_default
returns-in_default c = search (scan-damaged, arith)

pub returns : goal.returns
returns c = search (scan-end, arith)
