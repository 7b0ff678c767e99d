use Rattle.pieces.proofs.Storing.{front-fed, catch-up, caught}
use native.Mathlib.Omega.{arith}
use Rattle.pieces.proofs.state.caught_up.Goals as goal

pub slice_bounds-part-end : goal.slice_bounds-part-end
slice_bounds-part-end c = search (front-fed, arith)

pub returns-then-fed-space : goal.returns-then-fed-space
returns-then-fed-space c = search (catch-up, arith)

pub returns : goal.returns
returns c = search (caught, arith)
