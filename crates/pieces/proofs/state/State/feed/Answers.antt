use Rattle.pieces.proofs.Turns.{piece-room, piece-lent, piece-fed}
use native.Mathlib.Omega.{arith}
use Rattle.pieces.proofs.state.State.feed.Goals as goal

pub returns-then-sheet-self : goal.returns-then-sheet-self
returns-then-sheet-self c = search (piece-room, arith)

pub returns-then-lent-self : goal.returns-then-lent-self
returns-then-lent-self c = search (piece-lent, arith)

pub returns : goal.returns
returns c = search (piece-fed, arith)
