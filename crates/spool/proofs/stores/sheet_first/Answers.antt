use Rattle.spool.proofs.Storing.{first-end}
use native.Mathlib.Omega.{arith}
use Rattle.spool.proofs.stores.sheet_first.Goals as goal

pub returns : goal.returns
returns c = search (first-end, arith)
