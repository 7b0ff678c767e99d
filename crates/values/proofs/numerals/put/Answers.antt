use Rattle.values.proofs.Putting.{putting-starts, put-in, putting-goes, putting-ends}
use Rattle.values.proofs.numerals.put.Goals as goal

pub loop-i-init : goal.loop-i-init
loop-i-init c = search putting-starts

pub bounds-out-i : goal.bounds-out-i
bounds-out-i c = search put-in

pub loop-i-preserved : goal.loop-i-preserved
loop-i-preserved c = search putting-goes

pub returns : goal.returns
returns c = search putting-ends
