use Rattle.pieces.proofs.Following.{follows-start, follows_next, follows-end}
use native.Mathlib.Omega.{arith}
use Rattle.pieces.proofs.state.follow.Goals as goal

pub loop-octet-init : goal.loop-octet-init
loop-octet-init c = search (follows-start, arith)

pub loop-octet-preserved : goal.loop-octet-preserved
loop-octet-preserved c = search (follows_next, arith)

pub returns : goal.returns
returns c = search (follows-end, arith)
