use Rattle.marks.proofs.Digits.{pairing-none, pairing-inside, pairing-end, pairing-room, pairing-on}
use Rattle.hexadecimal.proofs.Digits.{digit-by-class}
use native.Mathlib.Omega.{arith}
use Rattle.marks.proofs.pairs.Goals as goal

pub loop-i-init : goal.loop-i-init
loop-i-init c = search pairing-none

pub overflow_sub-src : goal.overflow_sub-src
overflow_sub-src c = search (pairing-inside, arith)

pub returns-then-class_of-lt-HEX : goal.returns-then-class_of-lt-HEX
returns-then-class_of-lt-HEX c = search pairing-end

pub returns-then-class_of-lt-HEX-2 : goal.returns-then-class_of-lt-HEX-2
returns-then-class_of-lt-HEX-2 c = search pairing-end

pub value-requires : goal.value-requires
value-requires c = digit-by-class _ _ c.class_of.ensures (omega arith)

pub value-requires-in-loop-i : goal.value-requires-in-loop-i
value-requires-in-loop-i c = digit-by-class _ _ c.class_of-in-loop-i.ensures (omega arith)

pub bounds-out-o : goal.bounds-out-o
bounds-out-o c = search (pairing-room, arith)

pub loop-i-preserved : goal.loop-i-preserved
loop-i-preserved c = search (pairing-on, arith)

pub returns : goal.returns
returns c = search pairing-end
