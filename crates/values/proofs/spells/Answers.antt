use Rattle.values.proofs.Hints.{first-differs, second-differs, third-decides}
use native.Mathlib.Omega.{arith}
use Rattle.values.proofs.spells.Goals as goal

pub returns-then-src-at : goal.returns-then-src-at
returns-then-src-at c = search (first-differs, arith)

pub returns-then-src-at-2 : goal.returns-then-src-at-2
returns-then-src-at-2 c = search (second-differs, arith)

pub returns : goal.returns
returns c = search (third-decides, arith)
