use Rattle.plan.proofs.Spotting.{entry-beyond, entry-readable, entry-recorded, entry-node}
use native.Mathlib.Omega.{arith}
use Rattle.plan.proofs.spots.entry.Goals as goal

pub returns-then-node-nodes : goal.returns-then-node-nodes
returns-then-node-nodes c = search (entry-beyond, arith)

pub row_of-row-requires : goal.row_of-row-requires
row_of-row-requires c = search (entry-readable, arith)

pub level-around-requires : goal.level-around-requires
level-around-requires c = search (entry-recorded, arith)

pub returns : goal.returns
returns c = search (entry-node, arith)
