use native.Mathlib.Omega.{arith}
use Rattle.writer.proofs.Pieces.{open-inside, open-front}
use Rattle.writer.proofs.advanced.put_open.Goals as goal

pub bounds-out-o : goal.bounds-out-o
bounds-out-o c = search (open-inside, arith)

pub returns : goal.returns
returns c = search (open-front, arith)
