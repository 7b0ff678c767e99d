use Rattle.moves.specs.Moved.{Raising}
use Rattle.moves.proofs.raise.Given as goal

abbrev pub invariant-loop-j : goal.invariant-loop-j
invariant-loop-j l = Raising l.initial.buf l.from l.to l.delta l.buf l.j

abbrev pub decreases-loop-j : goal.decreases-loop-j
decreases-loop-j l = l.j
