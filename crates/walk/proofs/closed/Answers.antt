use native.Mathlib.Omega.{arith}
use Rattle.walk.proofs.Shut.{closed-open, closed-by}
use Rattle.walk.proofs.closed.Goals as goal

pub returns-then-opened-gt0 : goal.returns-then-opened-gt0
returns-then-opened-gt0 c = search (closed-open, arith)

pub returns : goal.returns
returns c = search (closed-by, arith)
