use Rattle.shifts.proofs.Answered.{in-sheet, value-unowned, value-beyond, value-found}
use native.Mathlib.Omega.{arith}
use Rattle.shifts.proofs.value_by.Goals as goal

pub returns-then-not-own : goal.returns-then-not-own
returns-then-not-own c = search (value-unowned, arith)

pub returns-then-node-nodes : goal.returns-then-node-nodes
returns-then-node-nodes c = search (value-beyond, arith)

pub typed_at-requires : goal.typed_at-requires
typed_at-requires c = search (in-sheet, arith)

pub returns : goal.returns
returns c = search (value-found, arith)
