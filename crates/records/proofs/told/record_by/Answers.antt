use Rattle.records.proofs.Tabling.{told-readable, told-row, told-zero}
use native.Mathlib.Omega.{arith}
use Rattle.records.proofs.told.record_by.Goals as goal

pub row_of-requires : goal.row_of-requires
row_of-requires c = search (told-readable, arith)

pub parent_of-requires : goal.parent_of-requires
parent_of-requires c = search (told-readable, arith)

pub returns-then-i-nodes : goal.returns-then-i-nodes
returns-then-i-nodes c = search (told-row, arith)

pub returns : goal.returns
returns c = search (told-zero, arith)
