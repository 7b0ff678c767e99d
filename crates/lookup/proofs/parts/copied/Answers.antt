use native.Mathlib.Omega.{arith}
use Rattle.base.proofs.Lists.{front_length}
use Rattle.lookup.proofs.Agreeing.{copied-not, copied-by}
use Rattle.lookup.proofs.parts.copied.Goals as goal

pub returns-then-b_length-a_length : goal.returns-then-b_length-a_length
returns-then-b_length-a_length c = search (copied-not, arith)

pub returns-then-b_length-b : goal.returns-then-b_length-b
returns-then-b_length-b c = search (copied-not, arith)

pub slice_bounds-left-end : goal.slice_bounds-left-end
slice_bounds-left-end c = search (front_length, arith)

pub slice_bounds-right-end : goal.slice_bounds-right-end
slice_bounds-right-end c = search (front_length, arith)

pub returns : goal.returns
returns c = search (copied-by, arith)
