use Rattle.splice.proofs.Moving.{Around}
use Rattle.splice.proofs.notes.around.Given as goal

abbrev pub invariant-loop-j : goal.invariant-loop-j
invariant-loop-j l = Around l.initial.notes l.first l.end l.by l.notes l.up l.j
