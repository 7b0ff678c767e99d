use Rattle.groups.proofs.Octets.{wide-one, wide-two, wide-three}
use native.Mathlib.Omega.{arith}
use Rattle.groups.proofs.lengths.groups_len.Goals as goal

pub returns-then-n-lt128 : goal.returns-then-n-lt128
returns-then-n-lt128 c = search (wide-one, arith)

pub returns-then-n-lt16384 : goal.returns-then-n-lt16384
returns-then-n-lt16384 c = search (wide-two, arith)

pub returns : goal.returns
returns c = search (wide-three, arith)
