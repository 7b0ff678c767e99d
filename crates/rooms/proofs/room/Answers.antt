use native.Mathlib.Omega.{arith}
use mathlib.Core.Path.{sym, refl}
use Rattle.answers.proofs.Judged.{judge-row, judge-none}
use Rattle.rooms.proofs.Rooms.{room-deep, room-records, room-size, room-lent, room-good}
use Rattle.rooms.proofs.room.Goals as goal

pub returns-then-sizes-gt-DEPTH : goal.returns-then-sizes-gt-DEPTH
returns-then-sizes-gt-DEPTH c = search (judge-row, room-deep, arith)

pub returns-then-sizes-records : goal.returns-then-sizes-records
returns-then-sizes-records c = search (judge-row, room-records, arith)

pub returns-then-sizes-gt-CANONICAL : goal.returns-then-sizes-gt-CANONICAL
returns-then-sizes-gt-CANONICAL c = search (judge-row, room-size, arith)

pub returns-then-sizes-octets : goal.returns-then-sizes-octets
returns-then-sizes-octets c = search (judge-row, room-lent, arith)

pub returns : goal.returns
returns c = search (judge-none, room-good, arith)
