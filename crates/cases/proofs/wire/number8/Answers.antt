use native.Mathlib.Omega.{arith}
use Rattle.cases.proofs.Numbers.{no-number8, number8-is}
use Rattle.cases.proofs.wire.number8.Goals as goal

pub returns-then-case-lt8 : goal.returns-then-case-lt8
returns-then-case-lt8 c = no-number8 _ _ (omega arith)

pub returns-then-at-case : goal.returns-then-at-case
returns-then-at-case c = no-number8 _ _ (omega arith)

pub returns : goal.returns
returns c = search (number8-is, arith)
