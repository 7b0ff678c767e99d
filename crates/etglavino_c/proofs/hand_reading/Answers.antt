use native.Mathlib.Omega.{arith}
use Rattle.etglavino_c.proofs.Handed.{hand-unplaced}
use Rattle.etglavino_c.proofs.hand_reading.Goals as goal

pub returns : goal.returns
returns c = search (hand-unplaced, arith)
