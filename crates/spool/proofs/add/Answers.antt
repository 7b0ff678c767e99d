use Rattle.spool.proofs.Adds.{add-room, add-whole, add-refused}
use native.Mathlib.Omega.{arith}
use Rattle.spool.proofs.add.Goals as goal

pub put_entry-requires : goal.put_entry-requires
put_entry-requires c = search (add-room, arith)

pub returns-in-Ok : goal.returns-in-Ok
returns-in-Ok c = search (add-whole, arith)

pub returns-in-Err : goal.returns-in-Err
returns-in-Err c = search (add-refused, arith)
