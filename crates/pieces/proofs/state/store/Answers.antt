use Rattle.pieces.proofs.Storing.{store-some, store-none}
use native.Mathlib.Omega.{arith}
use Rattle.pieces.proofs.state.store.Goals as goal

pub returns-then-at-room : goal.returns-then-at-room
returns-then-at-room c = search (store-some, arith)

pub returns-else-at-room : goal.returns-else-at-room
returns-else-at-room c = search (store-none, arith)
