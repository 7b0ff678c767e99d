use Rattle.quoted.proofs.EscapeSteps.{line-end, line-both, line-one}
use native.Mathlib.Omega.{arith}
use Rattle.quoted.proofs.escapes.line_escape.Goals as goal

pub returns-then-at-src : goal.returns-then-at-src
returns-then-at-src c = search (line-end, arith)

pub returns-then-src-at : goal.returns-then-src-at
returns-then-src-at c = search (line-both, arith)

pub returns : goal.returns
returns c = search (line-one, arith)
