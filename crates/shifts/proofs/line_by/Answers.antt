use Rattle.shifts.proofs.Answered.{in-sheet, line-unowned, line-beyond, line-missing, line-uncounted, line-given}
use native.Mathlib.Omega.{arith}
use Rattle.shifts.proofs.line_by.Goals as goal

pub returns-then-not-own : goal.returns-then-not-own
returns-then-not-own c = search (line-unowned, arith)

pub returns-then-node-nodes : goal.returns-then-node-nodes
returns-then-node-nodes c = search (line-beyond, arith)

pub hours_at-requires : goal.hours_at-requires
hours_at-requires c = search (in-sheet, arith)

pub returns-in_default : goal.returns-in_default
returns-in_default c = search (line-missing, arith)

pub returns-in_default-quarters_of : goal.returns-in_default-quarters_of
returns-in_default-quarters_of c = search (line-uncounted, arith)

pub returns : goal.returns
returns c = search (line-given, arith)
