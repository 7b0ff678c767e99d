use Prim.Native.Nat.{◌*◌, ◌-◌}
use Rattle.splice.proofs.Finishing.{retold, zeros-put}
use borrow.Author.Rules.{rules}
use native.Mathlib.Omega.{arith}
use Rattle.splice.proofs.retell.Goals as goal

pub returns : goal.returns
returns c =
    let x = c.args in
    let n = c.larger-end.result in
    retold x.notes.now x.table.now x.held x.count c.requires c.fill.new.table c.fill.ensures n (search rules) _
    (zeros-put c.fill.new.table c.fill-2.new.self (x.count * 9) (n * 9 - x.count * 9) (omega (arith, c.requires, c.larger-end.ensures)) (search rules))
