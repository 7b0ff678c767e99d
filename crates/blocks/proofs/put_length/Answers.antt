use native.Mathlib.Omega.{arith}
use lib.ListN.{length-set}
use Rattle.blocks.proofs.Lengths.{length-one}
use Rattle.blocks.proofs.put_length.Goals as goal

pub bounds-out-pos-then-n-lt10 : goal.bounds-out-pos-then-n-lt10
bounds-out-pos-then-n-lt10 c = simp length-set (omega arith)

pub returns-then-n-lt10 : goal.returns-then-n-lt10
returns-then-n-lt10 c = search (length-one, arith)
