use native.Mathlib.Omega.{arith}
use Rattle.writer.proofs.Pieces.{plain-rest, plain-front}
use Rattle.writer.proofs.advanced.put_plain.Goals as goal

pub put_spelled-requires-clause-end_in_bounds : goal.put_spelled-requires-clause-end_in_bounds
put_spelled-requires-clause-end_in_bounds c = search (plain-rest, arith)

pub returns : goal.returns
returns c = search (plain-front, arith)
