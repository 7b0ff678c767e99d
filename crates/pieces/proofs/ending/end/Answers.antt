use Rattle.pieces.proofs.Wholes.{ended}
use native.Mathlib.Omega.{arith}
use Rattle.pieces.proofs.ending.end.Goals as goal

pub returns-then-fed-le-SHORT : goal.returns-then-fed-le-SHORT
returns-then-fed-le-SHORT c = search (ended, arith)

pub returns-then-fed-le-MIDDLE : goal.returns-then-fed-le-MIDDLE
returns-then-fed-le-MIDDLE c = search (ended, arith)

pub returns : goal.returns
returns c = search (ended, arith)
