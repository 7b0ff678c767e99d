use native.Mathlib.Omega.{arith}
use Rattle.octets.proofs.Values.{hex-none, hex-letter, hex-digit, hex-digit-low}
use Rattle.octets.proofs.hex_of.Goals as goal

pub returns-then-c-lt-HEX : goal.returns-then-c-lt-HEX
returns-then-c-lt-HEX c = search (hex-none, arith)

pub overflow_sub-result : goal.overflow_sub-result
overflow_sub-result c = search (hex-digit-low, arith)

pub returns-then-c-eq-HEX : goal.returns-then-c-eq-HEX
returns-then-c-eq-HEX c = search (hex-letter, arith)

pub returns-else-c-eq-HEX : goal.returns-else-c-eq-HEX
returns-else-c-eq-HEX c = search (hex-digit, arith)
