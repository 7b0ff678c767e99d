use Rattle.marks.proofs.Taking.{taking-none}
use Rattle.marks.proofs.Digits.{hex-space, hex-from, hex-fits, hex-inside, hex-after, hex-room, hex-mark, hex-less, hex-on, hex-end, hex-none}
use native.Mathlib.Omega.{arith}
use Rattle.marks.proofs.hex.Goals as goal

pub loop-count-init : goal.loop-count-init
loop-count-init c = search taking-none

pub pairs-j-requires : goal.pairs-j-requires
pairs-j-requires c = search hex-space

pub overflow_sub-o : goal.overflow_sub-o
overflow_sub-o c = search (hex-from, arith)

pub overflow_add-o : goal.overflow_add-o
overflow_add-o c = search (hex-fits, arith)

pub overflow_sub-count : goal.overflow_sub-count
overflow_sub-count c = search (hex-after, arith)

pub returns-then-src-j-eq35 : goal.returns-then-src-j-eq35
returns-then-src-j-eq35 c = search (hex-mark, arith)

pub pair_at-requires : goal.pair_at-requires
pair_at-requires c = search hex-inside

pub bounds-out-o : goal.bounds-out-o
bounds-out-o c = search (hex-room, arith)

pub loop-count-smaller : goal.loop-count-smaller
loop-count-smaller c = search (hex-less, arith)

pub loop-count-preserved : goal.loop-count-preserved
loop-count-preserved c = search (hex-on, arith)

pub overflow_sub-count-in-Some-Hash : goal.overflow_sub-count-in-Some-Hash
overflow_sub-count-in-Some-Hash c = search (hex-after, arith)

pub returns-in-Some-Hash : goal.returns-in-Some-Hash
returns-in-Some-Hash c = search hex-end

pub returns-in-None : goal.returns-in-None
returns-in-None c = search hex-none
