use Rattle.pieces.proofs.Tracking.{count-colon, count-zero, count_low, count-high, count-digit}
use native.Mathlib.Omega.{arith}
use Rattle.pieces.proofs.track.Track.counted.Goals as goal

pub returns-then-octet-eq58 : goal.returns-then-octet-eq58
returns-then-octet-eq58 c = search (count-colon, arith)

pub returns-then-number-eq0 : goal.returns-then-number-eq0
returns-then-number-eq0 c = search (count-zero, arith)

pub returns-then-octet-lt48 : goal.returns-then-octet-lt48
returns-then-octet-lt48 c = search (count_low, arith)

pub returns-then-octet-gt57 : goal.returns-then-octet-gt57
returns-then-octet-gt57 c = search (count-high, arith)

pub returns : goal.returns
returns c = search (count-digit, arith)
