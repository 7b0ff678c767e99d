use native.Mathlib.Omega.{arith}
use Rattle.writer.proofs.Groups.{letters-start, letters-room, letters-on, letters-left, letters-long, letters-end}
use Rattle.writer.proofs.basic.put_letters.Goals as goal

pub loop-i-init : goal.loop-i-init
loop-i-init c = search (letters-start, arith)

pub put_group-o-requires : goal.put_group-o-requires
put_group-o-requires c = search (letters-room, arith)

pub loop-i-preserved : goal.loop-i-preserved
loop-i-preserved c = search (letters-on, arith)

pub put_rest-requires-clause-src_in_bounds : goal.put_rest-requires-clause-src_in_bounds
put_rest-requires-clause-src_in_bounds c = search (letters-left, arith)

pub shape_of-out : goal.shape_of-out
shape_of-out c = search (letters-long, arith)

pub returns : goal.returns
returns c = search (letters-end, arith)
