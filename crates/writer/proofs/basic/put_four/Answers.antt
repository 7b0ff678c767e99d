use native.Mathlib.Omega.{arith}
use Rattle.writer.proofs.Groups.{four-second, four-third, four-fourth, four-wrote}
use Rattle.writer.proofs.basic.put_four.Goals as goal

pub bounds-out-pos-2 : goal.bounds-out-pos-2
bounds-out-pos-2 c = search (four-second, arith)

pub bounds-out-pos-3 : goal.bounds-out-pos-3
bounds-out-pos-3 c = search (four-third, arith)

pub bounds-out-pos-4 : goal.bounds-out-pos-4
bounds-out-pos-4 c = search (four-fourth, arith)

pub returns : goal.returns
returns c = search (four-wrote, arith)
