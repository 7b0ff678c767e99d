use Rattle.advanced.proofs.Hints.{node-unhinted, node-room, node-hinted}
use native.Mathlib.Omega.{arith}
use Rattle.advanced.proofs.hinted.Goals as goal

pub returns-in_err-from : goal.returns-in_err-from
returns-in_err-from c = rw c.from_residual.ensures (search (node-unhinted, c.in_err-from.ensures, arith))

pub simple-requires : goal.simple-requires
simple-requires c = search (node-room, c.in_ok-from.ensures, arith)

pub returns : goal.returns
returns c = search (node-hinted, c.in_ok-from.ensures, arith)
