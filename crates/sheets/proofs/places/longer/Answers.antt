use Rattle.sheets.proofs.Packing.{zero-none, first-huge, first-digit, digits-end, digits-colon, digits_low, digits-high, digits-huge, digits_more}
use native.Mathlib.Omega.{arith}
use Rattle.sheets.proofs.places.longer.Goals as goal

pub returns-then-n-eq0 : goal.returns-then-n-eq0
returns-then-n-eq0 c = search (zero-none, arith)

pub returns-then-n-src : goal.returns-then-n-src
returns-then-n-src c = search (first-huge, arith)

pub loop-i-init : goal.loop-i-init
loop-i-init c = search (first-digit, arith)

pub returns-then-b-eq58 : goal.returns-then-b-eq58
returns-then-b-eq58 c = search (digits-colon, arith)

pub returns-then-b-lt48 : goal.returns-then-b-lt48
returns-then-b-lt48 c = search (digits_low, arith)

pub returns-then-b-gt57 : goal.returns-then-b-gt57
returns-then-b-gt57 c = search (digits-high, arith)

pub returns-then-n-src-2 : goal.returns-then-n-src-2
returns-then-n-src-2 c = search (digits-huge, arith)

pub loop-i-preserved : goal.loop-i-preserved
loop-i-preserved c = search (digits_more, arith)

pub returns : goal.returns
returns c = search (digits-end, arith)
