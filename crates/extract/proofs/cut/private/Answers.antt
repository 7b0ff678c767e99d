use native.Mathlib.Omega.{arith}
use Rattle.extract.proofs.Passing.{node-readable, tells-string, tells-empty, inner-readable, tells-other, inner-ordered, inner-inside, tells-word}
use Rattle.extract.proofs.cut.private.Goals as goal

pub row_of-row-requires : goal.row_of-row-requires
row_of-row-requires c = search (node-readable, arith)

pub returns-then-row-ne2 : goal.returns-then-row-ne2
returns-then-row-ne2 c = search (tells-string, arith)

pub returns-then-row-lt2 : goal.returns-then-row-lt2
returns-then-row-lt2 c = search (tells-empty, arith)

pub row_of-first-requires : goal.row_of-first-requires
row_of-first-requires c = search (inner-readable, arith)

pub returns-then-first-ne0 : goal.returns-then-first-ne0
returns-then-first-ne0 c = search (tells-other, arith)

pub is_word-requires : goal.is_word-requires
is_word-requires c = (search (inner-ordered, arith), search (inner-inside, arith))

pub returns : goal.returns
returns c = search (tells-word, arith)
