use native.Mathlib.Omega.{arith}
use Rattle.quoted.proofs.Loops.{unescaped-whole}
use Rattle.quoted.proofs.unescaped_end.Goals as goal

pub returns-then-src-end-eq34 : goal.returns-then-src-end-eq34
returns-then-src-end-eq34 c = search (unescaped-whole, arith)
