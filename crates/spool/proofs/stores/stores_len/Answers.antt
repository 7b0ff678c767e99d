use Rattle.spool.proofs.Storing.{count-behind, count-end}
use native.Mathlib.Omega.{arith}
use Rattle.spool.proofs.stores.stores_len.Goals as goal

pub returns-then-behind : goal.returns-then-behind
returns-then-behind c = search (count-behind, arith)

pub returns : goal.returns
returns c = search (count-end, arith)
