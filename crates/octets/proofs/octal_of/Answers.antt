use native.Mathlib.Omega.{arith}
use Rattle.octets.proofs.Values.{octal-low, octal-high, octal-in}
use Rattle.octets.proofs.octal_of.Goals as goal

pub returns-then-b-lt48 : goal.returns-then-b-lt48
returns-then-b-lt48 c = search (octal-low, arith)

pub returns-then-b-gt55 : goal.returns-then-b-gt55
returns-then-b-gt55 c = search (octal-high, arith)

pub returns : goal.returns
returns c = search (octal-in, arith)
