use native.Mathlib.Omega.{arith}
use Rattle.writer.proofs.Groups.{brace-first, brace-body, brace-last, brace-fits, brace-long, brace-wrote}
use Rattle.writer.proofs.basic.put_basic.Goals as goal

pub bounds-out-0 : goal.bounds-out-0
bounds-out-0 c = search (brace-first, arith)

pub put_letters-o-requires : goal.put_letters-o-requires
put_letters-o-requires c = search (brace-body, arith)

pub bounds-out-o : goal.bounds-out-o
bounds-out-o c = search (brace-last, arith)

pub overflow_add-result : goal.overflow_add-result
overflow_add-result c = search (brace-fits, arith)

pub shape_of-out : goal.shape_of-out
shape_of-out c = search (brace-long, arith)

pub returns : goal.returns
returns c = search (brace-wrote, arith)
