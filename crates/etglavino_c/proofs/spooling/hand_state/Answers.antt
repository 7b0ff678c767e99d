use Rattle.etglavino_c.proofs.Spooled.{numbers-handed}
use native.Mathlib.Omega.{arith}
use Rattle.etglavino_c.proofs.spooling.hand_state.Goals as goal

pub returns : goal.returns
returns c = search (numbers-handed, arith)
