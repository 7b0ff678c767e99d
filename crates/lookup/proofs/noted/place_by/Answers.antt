use Rattle.lookup.proofs.Noting.{show-readable, show-unowned, show-beyond, show-other, show-hint, show-data}
use native.Mathlib.Omega.{arith}
use Rattle.lookup.proofs.noted.place_by.Goals as goal

pub returns-then-node-nodes : goal.returns-then-node-nodes
returns-then-node-nodes c = search (show-beyond, arith)

pub row_of-row-requires : goal.row_of-row-requires
row_of-row-requires c = search (show-readable, arith)

pub returns-then-row-ne1 : goal.returns-then-row-ne1
returns-then-row-ne1 c = search (show-other, arith)

pub returns-then-hinted : goal.returns-then-hinted
returns-then-hinted c = search (show-hint, arith)

pub returns-then-own : goal.returns-then-own
returns-then-own c = search (show-data, arith)

pub returns : goal.returns
returns c = search (show-unowned, arith)
