use native.Mathlib.Omega.{arith}
use Rattle.etglavino_c.proofs.Handed.{hand-part, hand-none}
use Rattle.etglavino_c.proofs.hand_place.Goals as goal

pub returns-in-Some : goal.returns-in-Some
returns-in-Some c = search (hand-part, arith)

pub returns-in-None : goal.returns-in-None
returns-in-None c = search (hand-none, arith)
