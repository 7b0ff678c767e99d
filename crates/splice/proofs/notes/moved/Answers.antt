use Rattle.splice.proofs.Noting.{moved_plain, moved-hinted, moved-list, moving-hinted}
use native.Mathlib.Omega.{arith}
use Rattle.splice.proofs.notes.moved.Goals as goal

pub returns-then-third-eq0 : goal.returns-then-third-eq0
returns-then-third-eq0 c = search (moved_plain, arith)

pub overflow_sub-result : goal.overflow_sub-result
overflow_sub-result c = search (moving-hinted, arith)

pub returns-then-third-lt-LIST : goal.returns-then-third-lt-LIST
returns-then-third-lt-LIST c = search (moved-hinted, arith)

pub returns : goal.returns
returns c = search (moved-list, arith)
