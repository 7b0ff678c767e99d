use native.Mathlib.Omega.{arith}
use Rattle.decimal.proofs.Writing.{wide-1, wide-2, wide-3, wide-4, wide-5}
use Rattle.decimal.proofs.width.Goals as goal

pub returns-then-n-lt10 : goal.returns-then-n-lt10
returns-then-n-lt10 c = search (wide-1, arith)

pub returns-then-n-lt100 : goal.returns-then-n-lt100
returns-then-n-lt100 c = search (wide-2, arith)

pub returns-then-n-lt1000 : goal.returns-then-n-lt1000
returns-then-n-lt1000 c = search (wide-3, arith)

pub returns-then-n-lt10000 : goal.returns-then-n-lt10000
returns-then-n-lt10000 c = search (wide-4, arith)

pub returns : goal.returns
returns c = search (wide-5, arith)
