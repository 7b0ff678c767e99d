use native.Mathlib.Omega.{arith}
use Rattle.owned.proofs.Meeting.{ended-more, ended_so}
use Rattle.owned.proofs.ended.Goals as goal

pub returns-then-at-len : goal.returns-then-at-len
returns-then-at-len c = search (ended-more, arith)

pub returns : goal.returns
returns c = search (ended_so, arith)
