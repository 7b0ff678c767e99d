use Rattle.tables.proofs.Counts.{over-is}
use native.Mathlib.Omega.{arith}
use Rattle.tables.proofs.told.over.Goals as goal

pub returns : goal.returns
returns c = search (over-is, arith)
