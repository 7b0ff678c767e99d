use Rattle.spool.proofs.Stepping.{body-within, body-lent, body-few, step-copies, store-within, store-entried, store-few, step-stores, step-halts}
use native.Mathlib.Omega.{arith}
use Prim.Native.Nat.{◌+◌, ◌<◌}
use lib.ListN.{length}
use Rattle.spool.proofs.Adding.step.Goals as goal

pub bounds-sheet-from : goal.bounds-sheet-from
bounds-sheet-from c = search (body-lent, arith)

pub bounds-area-to : goal.bounds-area-to
bounds-area-to c = search (body-within, arith)

pub overflow_add-result : goal.overflow_add-result
overflow_add-result c =
    let few : c.args.self.made < 16388 = search (body-few, arith) in omega (arith, few)

pub entry_at-requires : goal.entry_at-requires
entry_at-requires c = search (store-entried, arith)

pub overflow_add-area : goal.overflow_add-area
overflow_add-area c =
    let within : c.args.self.at + c.in-Some-Octet.offset < length c.args.area.now = search (store-within, arith) in omega (arith, within)

pub bounds-area-at : goal.bounds-area-at
bounds-area-at c = search (store-within, arith)

pub overflow_add-result-in-Some-Octet : goal.overflow_add-result-in-Some-Octet
overflow_add-result-in-Some-Octet c =
    let few : c.args.self.made < 16388 = search (store-few, arith) in omega (arith, few)

pub returns-in-Some-Body : goal.returns-in-Some-Body
returns-in-Some-Body c = search (step-copies, arith)

pub returns-in-Some-Octet : goal.returns-in-Some-Octet
returns-in-Some-Octet c = search (step-stores, arith)

pub returns-in-None : goal.returns-in-None
returns-in-None c = search (step-halts, arith)
