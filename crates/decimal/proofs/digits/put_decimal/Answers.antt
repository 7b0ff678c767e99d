use native.Mathlib.Omega.{arith}
use Rattle.decimal.proofs.Writing.{room-1, room-2, wrote-1, wrote-2}
use borrow.Author.Rules.{rules}
use Rattle.decimal.proofs.digits.put_decimal.Goals as goal

pub bounds-out-pos : goal.bounds-out-pos
bounds-out-pos c = search (room-1, arith)

pub returns-then-n-lt10 : goal.returns-then-n-lt10
returns-then-n-lt10 c = search (wrote-1, arith)

pub put_two-requires : goal.put_two-requires
put_two-requires c = (search rules, search (room-2, arith))

pub returns-then-n-lt100 : goal.returns-then-n-lt100
returns-then-n-lt100 c = search (wrote-2, arith)
