use native.Mathlib.Omega.{arith}
use lib.ListN.{length-set}
use Rattle.spelling.proofs.Filling.{front-two}
use Rattle.spelling.proofs.put_two.Goals as goal

pub bounds-out-pos-2 : goal.bounds-out-pos-2
bounds-out-pos-2 c = simp length-set (omega arith)

pub returns : goal.returns
returns c = search (front-two, arith)
