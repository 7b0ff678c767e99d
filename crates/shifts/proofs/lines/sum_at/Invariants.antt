use Rattle.shifts.proofs.Adding.{Adding}
use Rattle.shifts.proofs.lines.sum_at.Given as goal

abbrev pub invariant-loop-at : goal.invariant-loop-at
invariant-loop-at l = Adding l.canonical l.notes l.nodes l.node l.stop l.at l.lines l.quarters
