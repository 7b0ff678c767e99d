use Rattle.splice.proofs.Moving.{Raising}
use Rattle.splice.proofs.notes.raise.Given as goal

abbrev pub invariant-loop-j : goal.invariant-loop-j
invariant-loop-j l = Raising l.initial.notes l.first l.from l.to l.n l.by l.notes l.j
