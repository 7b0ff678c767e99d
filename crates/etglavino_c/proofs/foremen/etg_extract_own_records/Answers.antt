use native.Mathlib.Omega.{arith}
use Rattle.etglavino_c.proofs.ExtractHanded.{own-handed}
use Rattle.etglavino_c.proofs.foremen.etg_extract_own_records.Goals as goal

pub returns : goal.returns
returns c = search (own-handed, arith)
