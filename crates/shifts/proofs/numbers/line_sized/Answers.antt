use Rattle.shifts.proofs.Answered.{owned-known, owned-line}
use native.Mathlib.Omega.{arith}
use Rattle.shifts.proofs.numbers.line_sized.Goals as goal

pub line_by-requires : goal.line_by-requires
line_by-requires g c = search (owned-known, arith)

pub returns : goal.returns
returns g c = search (owned-line, arith)
