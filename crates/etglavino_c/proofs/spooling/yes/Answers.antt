use Rattle.etglavino_c.proofs.Spooled.{yes-one, yes-none}
use native.Mathlib.Omega.{arith}
use Rattle.etglavino_c.proofs.spooling.yes.Goals as goal

pub returns-then-told : goal.returns-then-told
returns-then-told c = search (yes-one, arith)

pub returns : goal.returns
returns c = search (yes-none, arith)
