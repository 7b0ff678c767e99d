use native.Mathlib.Omega.{arith}
use Rattle.spelling.proofs.Spellings.{digit_low, digit-high}
use Rattle.spelling.proofs.hex_digit.Goals as goal

pub returns-then-n-lt10 : goal.returns-then-n-lt10
returns-then-n-lt10 c = search (digit_low, arith)

pub returns-else-n-lt10 : goal.returns-else-n-lt10
returns-else-n-lt10 c = search (digit-high, arith)
