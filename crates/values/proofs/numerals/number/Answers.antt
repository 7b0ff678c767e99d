use Rattle.values.proofs.Numeral.{reading-starts, mul-fits, in_reach, add-fits, reading-goes, reading-ends}
use Rattle.values.proofs.numerals.number.Goals as goal

pub loop-i-init : goal.loop-i-init
loop-i-init c = search reading-starts

pub overflow_mul-n : goal.overflow_mul-n
overflow_mul-n c = search mul-fits

pub bounds-src-i : goal.bounds-src-i
bounds-src-i c = search in_reach

pub overflow_add-n : goal.overflow_add-n
overflow_add-n c = search add-fits

pub loop-i-preserved : goal.loop-i-preserved
loop-i-preserved c = search reading-goes

pub returns : goal.returns
returns c = reading-ends _ _ _ _ _ _ c.loop-i.invariant c.loop-i-test.false
