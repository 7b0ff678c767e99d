use Rattle.spool.proofs.Offsets.{offset-behind, offset_made, offset-first, offset-next, offset-last, offset-over}
use native.Mathlib.Omega.{arith}
use Rattle.spool.proofs.stores.offset.Goals as goal

pub returns-then-made-eq0 : goal.returns-then-made-eq0
returns-then-made-eq0 c = search (offset-behind, arith)

pub returns-then-made-len : goal.returns-then-made-len
returns-then-made-len c = search (offset_made, arith)

pub returns-then-behind : goal.returns-then-behind
returns-then-behind c = search (offset-first, arith)

pub returns-then-made-len-2 : goal.returns-then-made-len-2
returns-then-made-len-2 c = search (offset-over, arith)

pub returns-then-made-len-3 : goal.returns-then-made-len-3
returns-then-made-len-3 c = search (offset-next, arith)

pub returns : goal.returns
returns c = search (offset-last, arith)
