use Rattle.pieces.proofs.Following.{extent-whole, extent-part, extent-other}
use native.Mathlib.Omega.{arith}
use Rattle.pieces.proofs.track.Track.extent.Goals as goal

pub returns-then-closed : goal.returns-then-closed
returns-then-closed c = search (extent-whole, arith)

pub returns-then-rests : goal.returns-then-rests
returns-then-rests c = search (extent-part, arith)

pub returns : goal.returns
returns c = search (extent-other, arith)
