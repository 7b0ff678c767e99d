use native.Mathlib.Omega.{arith}
use Rattle.spelling.proofs.Judging.{token-low, token-high, token-run}
use Rattle.spelling.proofs.token_end.Goals as goal

pub returns-then-c-lt-TOKEN : goal.returns-then-c-lt-TOKEN
returns-then-c-lt-TOKEN c = search (token-low, arith)

pub returns-then-c-gt-HEX : goal.returns-then-c-gt-HEX
returns-then-c-gt-HEX c = search (token-high, arith)

pub returns : goal.returns
returns c = search (token-run, arith)
