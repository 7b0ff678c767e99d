use Rattle.pieces.proofs.Tracking.{taken_is}
use native.Mathlib.Omega.{arith}
use Rattle.pieces.proofs.track.Track.went.Goals as goal

pub returns : goal.returns
returns c = search (taken_is, arith)
