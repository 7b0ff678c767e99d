use Rattle.spool.proofs.Putting.{none-behind, zero-behind}
use native.Mathlib.Omega.{arith}
use Rattle.spool.proofs.whole.put_behind.Goals as goal

pub returns-then-place-area : goal.returns-then-place-area
returns-then-place-area c = search (none-behind, arith)

pub returns : goal.returns
returns c = search (zero-behind, arith)
