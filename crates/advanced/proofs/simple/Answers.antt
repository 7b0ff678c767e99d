use Rattle.advanced.proofs.Strings.{simple-cut, simple-framed, simple-counted, simple-token}
use Rattle.advanced.proofs.Found.{digit-here}
use native.Mathlib.Omega.{arith}
use borrow.Author.Rules.{rules}
use Rattle.advanced.proofs.simple.Goals as goal

pub returns-then-at-src : goal.returns-then-at-src
returns-then-at-src c = search (simple-cut, arith)

pub returns-then-c-lt-TOKEN : goal.returns-then-c-lt-TOKEN
returns-then-c-lt-TOKEN c = search (simple-framed, arith)

pub counted-requires : goal.counted-requires
counted-requires c = (search rules, search rules, search (digit-here, arith))

pub returns-then-c-gt-HEX : goal.returns-then-c-gt-HEX
returns-then-c-gt-HEX c = search (simple-counted, arith)

pub returns : goal.returns
returns c = search (simple-token, arith)
