use native.Mathlib.Omega.{arith}
use Rattle.cases.proofs.Numbers.{no-number4, number4-is}
use Rattle.cases.proofs.wire.number4.Goals as goal

pub returns-then-case-lt4 : goal.returns-then-case-lt4
returns-then-case-lt4 c = no-number4 _ _ (omega arith)

pub returns-then-at-case : goal.returns-then-at-case
returns-then-at-case c = no-number4 _ _ (omega arith)

pub returns : goal.returns
returns c = search (number4-is, arith)
