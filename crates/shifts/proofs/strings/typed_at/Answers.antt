use Rattle.shifts.proofs.Inside.{known-readable, row-spans}
use Rattle.shifts.proofs.Typing.{typed-known}
use native.Mathlib.Omega.{arith}
use Rattle.shifts.proofs.strings.typed_at.Goals as goal

pub row_of-requires : goal.row_of-requires
row_of-requires c = search (known-readable, arith)

pub typed_row-requires : goal.typed_row-requires
typed_row-requires c = search (row-spans, arith)

pub returns : goal.returns
returns c = search (typed-known, arith)
