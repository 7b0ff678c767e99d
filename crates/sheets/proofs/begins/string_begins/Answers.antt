use Rattle.sheets.proofs.Beginnings.{begins-end, begins-low, begins-high, begins-zero, begins-digits}
use native.Mathlib.Omega.{arith}
use Rattle.sheets.proofs.begins.string_begins.Goals as goal

pub returns-then-at-src : goal.returns-then-at-src
returns-then-at-src c = search (begins-end, arith)

pub returns-then-b-lt48 : goal.returns-then-b-lt48
returns-then-b-lt48 c = search (begins-low, arith)

pub returns-then-b-gt57 : goal.returns-then-b-gt57
returns-then-b-gt57 c = search (begins-high, arith)

pub returns-then-b-eq48 : goal.returns-then-b-eq48
returns-then-b-eq48 c = search (begins-zero, arith)

pub returns : goal.returns
returns c = search (begins-digits, arith)
