use Rattle.sheets.proofs.Beginnings.{far-start, far-end, far-colon, far-low, far-high, far-on}
use native.Mathlib.Omega.{arith}
use Rattle.sheets.proofs.begins.digits_on.Goals as goal

pub loop-i-init : goal.loop-i-init
loop-i-init c = search (far-start, arith)

pub returns-then-b-eq58 : goal.returns-then-b-eq58
returns-then-b-eq58 c = search (far-colon, arith)

pub returns-then-b-lt48 : goal.returns-then-b-lt48
returns-then-b-lt48 c = search (far-low, arith)

pub returns-then-b-gt57 : goal.returns-then-b-gt57
returns-then-b-gt57 c = search (far-high, arith)

pub loop-i-preserved : goal.loop-i-preserved
loop-i-preserved c = search (far-on, arith)

pub returns : goal.returns
returns c = search (far-end, arith)
