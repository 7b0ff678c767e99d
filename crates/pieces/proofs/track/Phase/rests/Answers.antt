use Rattle.model.specs.Automaton.{rests}
use Rattle.pieces.proofs.Following.{rests-as}
use native.Mathlib.Omega.{arith}
use Rattle.pieces.proofs.track.Phase.rests.Goals as goal

pub returns-in-Between : goal.returns-in-Between
unfolding rests
returns-in-Between c = search (rests-as, arith)

pub returns-in-Sizing : goal.returns-in-Sizing
unfolding rests
returns-in-Sizing c = search (rests-as, arith)

pub returns-in-Counting : goal.returns-in-Counting
unfolding rests
returns-in-Counting c = search (rests-as, arith)

pub returns-in-Filling : goal.returns-in-Filling
unfolding rests
returns-in-Filling c = search (rests-as, arith)

pub returns-in-Bracket : goal.returns-in-Bracket
unfolding rests
returns-in-Bracket c = search (rests-as, arith)

pub returns-in-Dead : goal.returns-in-Dead
unfolding rests
returns-in-Dead c = search (rests-as, arith)
