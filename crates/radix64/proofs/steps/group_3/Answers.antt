use Rattle.radix64.proofs.GroupSteps.{group-none, g3-char, g3-end, g3-pad}
use Rattle.radix64.proofs.LetterSteps.{pad-place, char-place, char-low}
use native.Mathlib.Omega.{arith}
use Rattle.radix64.proofs.steps.group_3.Goals as goal

pub returns-in_err-octet : goal.returns-in_err-octet
returns-in_err-octet c = rw c.from_residual.ensures (search (group-none, c.in_err-octet.ensures))

pub group_4-requires : goal.group_4-requires
group_4-requires c = search (char-place, char-low, c.in_ok-octet.ensures, arith)

pub padded-requires : goal.padded-requires
padded-requires c = search (pad-place, c.in_ok-octet.ensures, arith)

pub returns-in-Char : goal.returns-in-Char
returns-in-Char c = search (g3-char, c.in_ok-octet.ensures)

pub returns-in-End : goal.returns-in-End
returns-in-End c = search (g3-end, c.in_ok-octet.ensures)

pub returns-in-Pad : goal.returns-in-Pad
returns-in-Pad c = search (g3-pad, c.in_ok-octet.ensures)
