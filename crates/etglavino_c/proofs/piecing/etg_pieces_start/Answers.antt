use Rattle.etglavino_c.proofs.Pieced.{start-handed}
use native.Mathlib.Omega.{arith}
use Rattle.etglavino_c.proofs.piecing.etg_pieces_start.Goals as goal

pub returns : goal.returns
returns c = search (start-handed, arith)
