use Rattle.marks.proofs.Letters.{grouping-none, grouping-inside, grouping-end, grouping-room, grouping-on, four_low}
use native.Mathlib.Omega.{arith}
use Rattle.marks.proofs.groups.Goals as goal

pub loop-i-init : goal.loop-i-init
loop-i-init c = search grouping-none

pub overflow_sub-src : goal.overflow_sub-src
overflow_sub-src c = search (grouping-inside, arith)

pub returns-then-a-ge64 : goal.returns-then-a-ge64
returns-then-a-ge64 c = search grouping-end

pub returns-then-b-ge64 : goal.returns-then-b-ge64
returns-then-b-ge64 c = search grouping-end

pub returns-then-c-ge64 : goal.returns-then-c-ge64
returns-then-c-ge64 c = search grouping-end

pub returns-then-e-ge64 : goal.returns-then-e-ge64
returns-then-e-ge64 c = search grouping-end

pub put_three-o-requires : goal.put_three-o-requires
put_three-o-requires c = (search (four_low, arith), search (grouping-room, arith))

pub loop-i-preserved : goal.loop-i-preserved
loop-i-preserved c =
    grouping-on _ _ _ _ _ _ _ c.loop-i.invariant (omega arith) _ _ _ _ c.letter_of-a.ensures (omega arith) c.letter_of-b.ensures (omega arith)
    c.letter_of-c.ensures (omega arith) c.letter_of-e.ensures (omega arith) _ _ c.put_three-o.ensures

pub returns : goal.returns
returns c = search grouping-end
