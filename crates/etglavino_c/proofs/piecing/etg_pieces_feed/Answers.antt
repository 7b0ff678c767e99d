use Rattle.etglavino_c.proofs.Pieced.{piece-refused, piece-taken}
use native.Mathlib.Omega.{arith}
use Rattle.etglavino_c.proofs.piecing.etg_pieces_feed.Goals as goal

pub returns-in-Err : goal.returns-in-Err
returns-in-Err c = search (piece-refused, arith)

pub returns-in-Ok : goal.returns-in-Ok
returns-in-Ok c = search (piece-taken, arith)
