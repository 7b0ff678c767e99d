use Rattle.plan.proofs.Hopping.{Hopping}
use Rattle.plan.proofs.spots.hop.Given as goal

abbrev pub invariant-loop : goal.invariant-loop
invariant-loop l = Hopping l.notes l.end l.k l.from l.counter l.j
