use native.Mathlib.Omega.{arith}
use Rattle.writer.proofs.Pieces.{hint-rest, data-rest, hinted-front}
use Rattle.writer.proofs.advanced.put_hinted.Goals as goal

pub put_hint-p-requires-clause-end_in_bounds : goal.put_hint-p-requires-clause-end_in_bounds
put_hint-p-requires-clause-end_in_bounds c = search (hint-rest, arith)

pub put_spelled-requires-clause-end_in_bounds : goal.put_spelled-requires-clause-end_in_bounds
put_spelled-requires-clause-end_in_bounds c = search (data-rest, arith)

pub returns : goal.returns
returns c = search (hinted-front, arith)
