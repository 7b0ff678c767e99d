use Rattle.decimal.proofs.Reading.{decimal-zero, decimal-many}
use native.Mathlib.Omega.{arith}
use Rattle.decimal.proofs.decimal_at.Goals as goal

pub returns-then-src-at-eq48 : goal.returns-then-src-at-eq48
returns-then-src-at-eq48 c = search (decimal-zero, arith)

pub returns : goal.returns
returns c = search (decimal-many, arith)
