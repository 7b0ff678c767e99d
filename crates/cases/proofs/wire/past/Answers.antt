use native.Mathlib.Omega.{arith}
use Rattle.cases.proofs.Numbers.{nowhere, place_is}
use Rattle.cases.proofs.wire.past.Goals as goal

pub returns-then-at-case : goal.returns-then-at-case
returns-then-at-case c = nowhere _ _ _ (omega arith)

pub returns-then-count-case : goal.returns-then-count-case
returns-then-count-case c = nowhere _ _ _ (omega arith)

pub returns : goal.returns
returns c = place_is _ _ _ (omega arith)
