use Rattle.advanced.proofs.Strings.{decode-quoted, decode-hex, decode-base, decode-none}
use Rattle.radix64.proofs.Marks.{bar}
use native.Mathlib.Omega.{arith}
use borrow.Author.Rules.{rules}
use Rattle.advanced.proofs.decode.Goals as goal

pub returns-then-b-eq34 : goal.returns-then-b-eq34
returns-then-b-eq34 c = search (decode-quoted, arith)

pub returns-then-b-eq35 : goal.returns-then-b-eq35
returns-then-b-eq35 c = search (decode-hex, arith)

pub base-requires : goal.base-requires
base-requires c = (search rules, bar)

pub returns-then-b-eq124 : goal.returns-then-b-eq124
returns-then-b-eq124 c = search (decode-base, arith)

pub returns : goal.returns
returns c = search (decode-none, arith)
