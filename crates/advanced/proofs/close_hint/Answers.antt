use Rattle.advanced.proofs.Hints.{close-cut, close_open, close-some}
use native.Mathlib.Omega.{arith}
use Rattle.advanced.proofs.close_hint.Goals as goal

pub returns-then-j-src : goal.returns-then-j-src
returns-then-j-src c = search (close-cut, arith)

pub returns-then-src-j-ne93 : goal.returns-then-src-j-ne93
returns-then-src-j-ne93 c = search (close_open, arith)

pub returns : goal.returns
returns c = search (close-some, arith)
