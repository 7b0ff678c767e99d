use Rattle.plan.proofs.Spotting.{remove_first, remove-found}
use native.Mathlib.Omega.{arith}
use Rattle.plan.proofs.spots.removal.Goals as goal

pub returns-then-node-eq0 : goal.returns-then-node-eq0
returns-then-node-eq0 c = search (remove_first, arith)

pub returns : goal.returns
returns c = search (remove-found, arith)
