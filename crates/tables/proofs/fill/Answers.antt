use Rattle.tables.proofs.Filling.{fill_start, fill-readable, fill_on, fill-long, fill_end}
use native.Mathlib.Omega.{arith}
use Rattle.tables.proofs.fill.Goals as goal

pub loop-k-init : goal.loop-k-init
loop-k-init c = search (fill_start, arith)

pub row_of-requires : goal.row_of-requires
row_of-requires c = search (fill-readable, arith)

pub parent_of-requires : goal.parent_of-requires
parent_of-requires c = search (fill-readable, arith)

pub loop-k-preserved : goal.loop-k-preserved
loop-k-preserved c = search (fill_on, arith, c.parent_of.ensures, c.row_of.ensures, c.put_row.ensures, c.loop-k.invariant)

pub shape_of-table : goal.shape_of-table
shape_of-table c = search (fill-long, arith)

pub returns : goal.returns
returns c = search (fill_end, arith)
