use Rattle.pieces.proofs.Tracking.{size_low, size-high, size-digit}
use native.Mathlib.Omega.{arith}
use Rattle.pieces.proofs.track.Track.sized.Goals as goal

pub returns-then-octet-lt48 : goal.returns-then-octet-lt48
returns-then-octet-lt48 c = search (size_low, arith)

pub returns-then-octet-gt57 : goal.returns-then-octet-gt57
returns-then-octet-gt57 c = search (size-high, arith)

pub returns : goal.returns
returns c = search (size-digit, arith)
