use Rattle.tables.proofs.Telling.{hinted-told}
use native.Mathlib.Omega.{arith}
use Rattle.tables.proofs.told.hinted_by.Goals as goal

pub returns : goal.returns
returns c = search (hinted-told, arith)
