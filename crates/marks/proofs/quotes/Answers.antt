use Rattle.marks.proofs.Pieces.{quotes-inside, quotes-from, quotes-source, quotes-space, quotes-after, quotes-room, one_less, gone-less, quotes-one, quotes-gone, quotes-end, quotes-none}
use Rattle.marks.proofs.Taking.{taking-none}
use native.Mathlib.Omega.{arith}
use Rattle.marks.proofs.quotes.Goals as goal

pub loop-octet-init : goal.loop-octet-init
loop-octet-init c = search taking-none

pub plain_end-j-requires : goal.plain_end-j-requires
plain_end-j-requires c = search quotes-inside

pub overflow_sub-j : goal.overflow_sub-j
overflow_sub-j c = search (quotes-from, arith)

pub copy-o-requires : goal.copy-o-requires
copy-o-requires c = (search (quotes-source, arith), search (quotes-space, arith))

pub bounds-out-o : goal.bounds-out-o
bounds-out-o c = search (quotes-room, arith)

pub loop-octet-smaller-in-Some-One : goal.loop-octet-smaller-in-Some-One
loop-octet-smaller-in-Some-One c = search (one_less, arith)

pub loop-octet-preserved-in-Some-One : goal.loop-octet-preserved-in-Some-One
loop-octet-preserved-in-Some-One c = search (quotes-one, arith)

pub loop-octet-smaller : goal.loop-octet-smaller
loop-octet-smaller c = search (gone-less, arith)

pub loop-octet-preserved : goal.loop-octet-preserved
loop-octet-preserved c = search (quotes-gone, arith)

pub overflow_sub-count : goal.overflow_sub-count
overflow_sub-count c = search (quotes-after, arith)

pub returns-in-Some-Quote : goal.returns-in-Some-Quote
returns-in-Some-Quote c = search quotes-end

pub returns-in-None : goal.returns-in-None
returns-in-None c = search quotes-none
