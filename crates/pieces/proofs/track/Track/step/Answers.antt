use Rattle.pieces.proofs.Tracking.{at-between, at-sizing, at-counting, at-filling, at_bracket, at_other, at_dead}
use native.Mathlib.Omega.{arith}
use Rattle.pieces.proofs.track.Track.step.Goals as goal

pub returns-then-octet-eq93 : goal.returns-then-octet-eq93
returns-then-octet-eq93 c = search (at_bracket, arith)

pub returns-in-Between : goal.returns-in-Between
returns-in-Between c = search (at-between, arith)

pub returns-in-Sizing : goal.returns-in-Sizing
returns-in-Sizing c = search (at-sizing, arith)

pub returns-in-Counting : goal.returns-in-Counting
returns-in-Counting c = search (at-counting, arith)

pub returns-in-Filling : goal.returns-in-Filling
returns-in-Filling c = search (at-filling, arith)

pub returns-else-octet-eq93 : goal.returns-else-octet-eq93
returns-else-octet-eq93 c = search (at_other, arith)

pub returns-in-Dead : goal.returns-in-Dead
returns-in-Dead c = search (at_dead, arith)
