use native.Mathlib.Omega.{arith}
use Rattle.tables.proofs.Granting.{unkind}
use Rattle.tables.proofs.claims.other_claim.Goals as goal

pub returns : goal.returns
returns c = search (unkind, arith)
