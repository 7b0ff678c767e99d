use Rattle.shifts.proofs.Answered.{owned-known, owned_value}
use native.Mathlib.Omega.{arith}
use Rattle.shifts.proofs.numbers.value_sized.Goals as goal

pub value_by-requires : goal.value_by-requires
value_by-requires g c = search (owned-known, arith)

pub returns : goal.returns
returns g c = search (owned_value, arith)
