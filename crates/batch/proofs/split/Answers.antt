use native.Mathlib.Omega.{arith}
use Rattle.batch.proofs.Going.{going_start, going-short, going-other, going-open, going-unopened, going-closed, going-close, plain-less, going-plain, past-plain, hinted-less, going-hinted, past-hinted}
use Rattle.batch.proofs.split.Goals as goal

pub loop-at-init : goal.loop-at-init
loop-at-init c = search (going_start, arith)

pub loop-at-preserved-in-Some-Open : goal.loop-at-preserved-in-Some-Open
loop-at-preserved-in-Some-Open c = search (going-open, arith)

pub returns-then-opened-eq0 : goal.returns-then-opened-eq0
returns-then-opened-eq0 c = search (going-unopened, arith)

pub returns-then-opened-eq1 : goal.returns-then-opened-eq1
returns-then-opened-eq1 c = search (going-closed, arith)

pub loop-at-preserved-in-Some-Close : goal.loop-at-preserved-in-Some-Close
loop-at-preserved-in-Some-Close c = search (going-close, arith)

pub returns-then-opened-eq0-2 : goal.returns-then-opened-eq0-2
returns-then-opened-eq0-2 c = search (going-plain, arith)

pub loop-at-smaller-in-Some-Plain : goal.loop-at-smaller-in-Some-Plain
loop-at-smaller-in-Some-Plain c = search (plain-less, arith)

pub loop-at-preserved-in-Some-Plain : goal.loop-at-preserved-in-Some-Plain
loop-at-preserved-in-Some-Plain c = search (past-plain, arith)

pub returns-then-opened-eq0-3 : goal.returns-then-opened-eq0-3
returns-then-opened-eq0-3 c = search (going-hinted, arith)

pub loop-at-smaller : goal.loop-at-smaller
loop-at-smaller c = search (hinted-less, arith)

pub loop-at-preserved : goal.loop-at-preserved
loop-at-preserved c = search (past-hinted, arith)

pub returns-in-None : goal.returns-in-None
returns-in-None c = search (going-other, arith)

pub returns : goal.returns
returns c = search (going-short, arith)
