use native.Mathlib.Omega.{arith}
use Rattle.writer.proofs.Groups.{rest-none, rest-room, rest-one, rest-two}
use Rattle.writer.proofs.basic.put_rest.Goals as goal

pub returns-then-left-eq0 : goal.returns-then-left-eq0
returns-then-left-eq0 c = search (rest-none, arith)

pub put_four-requires : goal.put_four-requires
put_four-requires c = search (rest-room, arith)

pub returns-then-left-eq1 : goal.returns-then-left-eq1
returns-then-left-eq1 c = search (rest-one, arith)

pub put_four-requires-2 : goal.put_four-requires-2
put_four-requires-2 c = search (rest-room, arith)

pub returns : goal.returns
returns c = search (rest-two, arith)
