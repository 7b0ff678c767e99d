use Rattle.marks.proofs.Letters.{padded-three, padded-two}
use Rattle.marks.proofs.Taking.{ending-none}
use native.Mathlib.Omega.{arith}
use Rattle.marks.proofs.padded.Goals as goal

pub returns-then-src-at-lt5 : goal.returns-then-src-at-lt5
returns-then-src-at-lt5 c = search (ending-none)

pub returns-then-src-at : goal.returns-then-src-at
returns-then-src-at c = search (ending-none)

pub returns-then-src-at-ne61 : goal.returns-then-src-at-ne61
returns-then-src-at-ne61 c = search (ending-none)

pub returns-then-a-ge64 : goal.returns-then-a-ge64
returns-then-a-ge64 c = search (ending-none)

pub returns-then-b-ge64 : goal.returns-then-b-ge64
returns-then-b-ge64 c = search (ending-none)

pub returns-then-leftover : goal.returns-then-leftover
returns-then-leftover c =
    padded-three _ c.requires.1 _ _ (omega arith) c.if-src-at.false c.if-src-at-ne61.false (omega arith) (omega arith) _ _ _ _ c.requires.0 _ _ c.letter_of-a.ensures c.letter_of-b.ensures
    _ c.letter_of-c.ensures (omega arith) _ c.leftover.ensures c.if-leftover.true c.put_last.ensures

pub returns-then-c-lt64 : goal.returns-then-c-lt64
returns-then-c-lt64 c = search (ending-none)

pub returns-then-leftover-2 : goal.returns-then-leftover-2
returns-then-leftover-2 c =
    padded-two _ c.requires.1 _ _ (omega arith) c.if-src-at.false c.if-src-at-ne61.false (omega arith) (omega arith) _ _ _ _ c.requires.0 _ _ c.letter_of-a.ensures c.letter_of-b.ensures
    c.if-src-at-eq61.true _ c.leftover-then-src-at-eq61.ensures c.if-leftover-2.true c.put_last-then-leftover-2.ensures

pub returns-else-leftover-2 : goal.returns-else-leftover-2
returns-else-leftover-2 c = search (ending-none)

pub returns-else-src-at-eq61 : goal.returns-else-src-at-eq61
returns-else-src-at-eq61 c = search (ending-none)
