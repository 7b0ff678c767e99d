use native.Mathlib.Omega.{arith}
use Rattle.etglavino_c.proofs.ExtractHanded.{extract-handed}
use Rattle.etglavino_c.proofs.foremen.etg_extract.Goals as goal

pub returns : goal.returns
returns c = search (extract-handed, arith)
