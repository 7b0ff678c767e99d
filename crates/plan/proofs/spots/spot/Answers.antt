use Rattle.plan.proofs.Spotting.{spot-replace, spot-same}
use native.Mathlib.Omega.{arith}
use Rattle.plan.proofs.spots.spot.Goals as goal

pub returns-in-Replace : goal.returns-in-Replace
returns-in-Replace c = search (spot-replace, arith)

pub returns-in-Insert : goal.returns-in-Insert
returns-in-Insert c = search (spot-same, arith)

pub returns-in-Remove : goal.returns-in-Remove
returns-in-Remove c = search (spot-same, arith)
