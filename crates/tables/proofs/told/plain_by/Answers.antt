use Rattle.tables.proofs.Telling.{plain-told}
use native.Mathlib.Omega.{arith}
use Rattle.tables.proofs.told.plain_by.Goals as goal

pub returns : goal.returns
returns c = search (plain-told, arith)
