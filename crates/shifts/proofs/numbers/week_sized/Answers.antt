use Rattle.shifts.proofs.Answered.{owned-known, owned-sum}
use native.Mathlib.Omega.{arith}
use Rattle.shifts.proofs.numbers.week_sized.Goals as goal

pub week_by-requires : goal.week_by-requires
week_by-requires g c = search (owned-known, arith)

pub returns : goal.returns
returns g c = search (owned-sum, arith)
