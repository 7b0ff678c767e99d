use Rattle.pieces.proofs.Storing.{front-few, stay-inside, go-past}
use native.Mathlib.Omega.{arith}
use Rattle.pieces.proofs.state.gone_on.Goals as goal

pub returns-then-total-space : goal.returns-then-total-space
returns-then-total-space c = search (stay-inside, arith)

pub slice_bounds-part-end : goal.slice_bounds-part-end
slice_bounds-part-end c = search (front-few, arith)

pub returns : goal.returns
returns c = search (go-past, arith)
