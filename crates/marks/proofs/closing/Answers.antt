use Rattle.marks.proofs.Letters.{mark-ending}
use Rattle.marks.proofs.Taking.{ending-none}
use native.Mathlib.Omega.{arith}
use Rattle.marks.proofs.closing.Goals as goal

pub returns-then-at-src : goal.returns-then-at-src
returns-then-at-src c = search ending-none

pub returns-then-src-at : goal.returns-then-src-at
returns-then-src-at c = search (mark-ending, arith)
