use Rattle.etglavino_c.proofs.Pieced.{end-handed}
use native.Mathlib.Omega.{arith}
use Rattle.etglavino_c.proofs.piecing.etg_pieces_end.Goals as goal

pub returns : goal.returns
returns c = search (end-handed, arith)
