use Rattle.plan.proofs.Spotting.{find-kept, find-spot, find-unowned}
use native.Mathlib.Omega.{arith}
use Rattle.plan.proofs.spots.find.Goals as goal

pub spot-requires : goal.spot-requires
spot-requires c = search (find-kept, arith)

pub returns-then-own : goal.returns-then-own
returns-then-own c = search (find-spot, arith)

pub returns : goal.returns
returns c = search (find-unowned, arith)
