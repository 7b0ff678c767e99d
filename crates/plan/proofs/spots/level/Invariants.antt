use Rattle.plan.proofs.Levelling.{Levelling}
use Rattle.plan.proofs.spots.level.Given as goal

abbrev pub invariant-loop-j : goal.invariant-loop-j
invariant-loop-j l = Levelling l.notes l.node l.level l.j
