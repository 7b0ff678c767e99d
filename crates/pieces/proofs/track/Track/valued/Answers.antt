use Rattle.pieces.proofs.Tracking.{value-shut, value-open, value_none, value-close, value-hint, value-digit}
use native.Mathlib.Omega.{arith}
use Rattle.pieces.proofs.track.Track.valued.Goals as goal

pub returns-then-closed : goal.returns-then-closed
returns-then-closed c = search (value-shut, arith)

pub returns-then-octet-eq40 : goal.returns-then-octet-eq40
returns-then-octet-eq40 c = search (value-open, arith)

pub returns-then-opened-eq0 : goal.returns-then-opened-eq0
returns-then-opened-eq0 c = search (value_none, arith)

pub returns-then-octet-eq41 : goal.returns-then-octet-eq41
returns-then-octet-eq41 c = search (value-close, arith)

pub returns-then-octet-eq91 : goal.returns-then-octet-eq91
returns-then-octet-eq91 c = search (value-hint, arith)

pub returns : goal.returns
returns c = search (value-digit, arith)
