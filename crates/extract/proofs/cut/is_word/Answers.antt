use Rattle.extract.proofs.Words.{word-length, word-0, word-1, word-2, word-3, word-4, word-5, word-6}
use native.Mathlib.Omega.{arith}
use Rattle.extract.proofs.cut.is_word.Goals as goal

pub returns-then-end-start-ne7 : goal.returns-then-end-start-ne7
returns-then-end-start-ne7 c = search (word-length, arith)

pub returns-then-src-start-ne112 : goal.returns-then-src-start-ne112
returns-then-src-start-ne112 c = search (word-0, arith)

pub returns-then-src-start-ne114 : goal.returns-then-src-start-ne114
returns-then-src-start-ne114 c = search (word-1, arith)

pub returns-then-src-start-ne105 : goal.returns-then-src-start-ne105
returns-then-src-start-ne105 c = search (word-2, arith)

pub returns-then-src-start-ne118 : goal.returns-then-src-start-ne118
returns-then-src-start-ne118 c = search (word-3, arith)

pub returns-then-src-start-ne97 : goal.returns-then-src-start-ne97
returns-then-src-start-ne97 c = search (word-4, arith)

pub returns-then-src-start-ne116 : goal.returns-then-src-start-ne116
returns-then-src-start-ne116 c = search (word-5, arith)

pub returns : goal.returns
returns c = search (word-6, arith)
