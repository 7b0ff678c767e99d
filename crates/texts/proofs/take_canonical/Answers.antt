use Rattle.texts.proofs.Taking.{canonical-long, canonical-room, canonical-copied}
use native.Mathlib.Omega.{arith}
use Rattle.texts.proofs.take_canonical.Goals as goal

pub returns-then-len-gt-CANONICAL : goal.returns-then-len-gt-CANONICAL
returns-then-len-gt-CANONICAL c = search (canonical-long, arith)

pub copy-requires : goal.copy-requires
copy-requires c = search (canonical-room, arith)

pub returns-in-Ok : goal.returns-in-Ok
returns-in-Ok c = search (canonical-copied, arith)

pub returns-in-Err : goal.returns-in-Err
returns-in-Err c = search (canonical-copied, arith)
