use Rattle.plan.proofs.Hopping.{octet-readable, octet-here, octet-past}
use native.Mathlib.Omega.{arith}
use Rattle.plan.proofs.spots.octet.Goals as goal

pub row_of-row-requires : goal.row_of-row-requires
row_of-row-requires c = search (octet-readable, arith)

pub returns-then-first-end : goal.returns-then-first-end
returns-then-first-end c = search (octet-here, arith)

pub returns : goal.returns
returns c = search (octet-past, arith)
