use Rattle.groups.proofs.Octets.{group-one, group-low, group-two, group-middle, group-three}
use native.Mathlib.Omega.{arith}
use Rattle.groups.proofs.lengths.group_at.Goals as goal

pub returns-then-n-lt128 : goal.returns-then-n-lt128
returns-then-n-lt128 c = search (group-one, arith)

pub returns-then-i-eq0 : goal.returns-then-i-eq0
returns-then-i-eq0 c = search (group-low, arith)

pub returns-then-n-lt16384 : goal.returns-then-n-lt16384
returns-then-n-lt16384 c = search (group-two, arith)

pub returns-then-i-eq1 : goal.returns-then-i-eq1
returns-then-i-eq1 c = search (group-middle, arith)

pub returns : goal.returns
returns c = search (group-three, arith)
