use Prim.Native.Nat.{◌-◌}
use Rattle.splice.proofs.Finishing.{ended, zeros-put}
use borrow.Author.Rules.{rules}
use native.Mathlib.Omega.{arith}
use Rattle.splice.proofs.end.Goals as goal

pub returns : goal.returns
returns c =
    let x = c.args in
    let n = c.larger.result in
    ended x.canonical.now x.old x.len x.count n (search rules) _
    (zeros-put x.canonical.now c.fill.new.self x.len (n - x.len) (omega (arith, c.larger.ensures, c.requires)) (search rules))
