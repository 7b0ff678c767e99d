use Rattle.splice.proofs.Moving.{Lowering}
use Rattle.splice.proofs.notes.lower.Given as goal

abbrev pub invariant-loop-j : goal.invariant-loop-j
invariant-loop-j l = Lowering l.initial.notes l.first l.from l.to l.n l.by l.notes l.j
