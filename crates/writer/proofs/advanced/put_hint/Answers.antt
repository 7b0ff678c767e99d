use native.Mathlib.Omega.{arith}
use Rattle.spelling.proofs.Filling.{mark-body, mark-last, mark-long, mark-both}
use Rattle.writer.proofs.advanced.put_hint.Goals as goal

pub put_spelled-o-requires-clause-end_in_bounds : goal.put_spelled-o-requires-clause-end_in_bounds
put_spelled-o-requires-clause-end_in_bounds c = search (mark-body, arith)

pub bounds-out-o : goal.bounds-out-o
bounds-out-o c = search (mark-last, arith)

pub shape_of-out : goal.shape_of-out
shape_of-out c = search (mark-long, arith)

pub returns : goal.returns
returns c = search (mark-both, arith)
