use Rattle.decimal.proofs.Reading.{count_none, count_low, count-high, count-end, capped-more, capped-huge}
use lib.ListN.{length}
use native.Mathlib.Omega.{arith}
use Prim.Native.Nat.{◌<◌}
use Rattle.decimal.proofs.number_at.Goals as goal

pub loop-i-init : goal.loop-i-init
loop-i-init c = search (count_none, arith)

pub returns-then-b-lt48 : goal.returns-then-b-lt48
returns-then-b-lt48 c = search (count_low, arith)

pub returns-then-b-gt57 : goal.returns-then-b-gt57
returns-then-b-gt57 c = search (count-high, arith)

pub returns-then-value-src : goal.returns-then-value-src
returns-then-value-src c = search (capped-huge, arith)

pub loop-i-preserved : goal.loop-i-preserved
loop-i-preserved c =
    let short : length c.args.src.now < 9223372036854775808 = omega (arith, c.well_formed) in
    search (capped-more, short, arith)

pub returns : goal.returns
returns c = search (count-end, arith)
