use Rattle.plan.proofs.Spotting.{insert-beyond, insert-found}
use native.Mathlib.Omega.{arith}
use Rattle.plan.proofs.spots.insertion.Goals as goal

pub returns-then-node-nodes : goal.returns-then-node-nodes
returns-then-node-nodes c = search (insert-beyond, arith)

pub returns : goal.returns
returns c = search (insert-found, arith)
