use Rattle.pieces.proofs.Tracking.{come-more, come-hint, come-string}
use native.Mathlib.Omega.{arith}
use Rattle.pieces.proofs.track.Track.awaits.Goals as goal

pub returns-then-n-gt0 : goal.returns-then-n-gt0
returns-then-n-gt0 c = search (come-more, arith)

pub returns-then-hint : goal.returns-then-hint
returns-then-hint c = search (come-hint, arith)

pub returns : goal.returns
returns c = search (come-string, arith)
