use native.Mathlib.Omega.{arith}
use Rattle.etglavino_c.proofs.Handed.{place-handed}
use Rattle.etglavino_c.proofs.etg_hint.Goals as goal

pub returns : goal.returns
returns c = search (place-handed, arith)
